-- A name more leaves all that is shown.
use Rattle.std.proofs.Common.{◌≡◌, ◌≢◌, ℕ, List, [], ◌∷◌, ◌++◌, map, refl, sym, ap, arith, ◌∙◌, subst, length-append}
use Rattle.std.specs.Prelude.{unwrap_or}
use Rattle.std.specs.List.{AllByRecursion}
use Rattle.ps_language.specs.declared.kinds.Kind.{Kind}
use Rattle.ps_language.specs.declared.kinds.Kind.TheVariants.{Array as ArrayKind, Text as TextKind, Body as BodyKind}
use Rattle.ps_language.specs.Value.{Dictionary as DictionaryValue, Object, name_value, Store}
use Rattle.ps_word.specs.declared.words.Word.{Word}
use Rattle.ps_word.specs.declared.values.Content.{Content}
use Rattle.ps_word.specs.declared.values.Content.TheVariants.{Null, Integer, Boolean, Mark, Name, Operator, Array, Text, Dictionary, Lock, Condition, Body}
use Rattle.ps_word.specs.Format.{content_in, executable_in}
use Rattle.ps_mem.specs.Heap.{Heap, birth_at}
use Rattle.ps_mem.specs.Meaning.{value_of, what_of}
use Rattle.ps_mem.specs.Shows.{IsWithin, IsWithinContent, AreWithin, pair_of, words_of_pairs, ShowsDictionary, IsShown, shown_array, shown_text, shown_dictionary, shown_lock, shown_condition, Shows}
use Rattle.ps_mem.proofs.NewShows.{slice_get-append_left}

module _ (names more : List (List ℕ)) (births : ℕ → ℕ) (s : Store) where
  what_of-named : (content : Content) → IsWithinContent births names s content
      → what_of births (names ++ more) content ≡ what_of births names content
  what_of-named Null w = refl
  what_of-named (Integer _) w = refl
  what_of-named (Boolean _) w = refl
  what_of-named Mark w = refl
  what_of-named (Name n) w = ap (λ found. name_value (unwrap_or found [])) (slice_get-append_left names more n w)
  what_of-named (Operator _) w = refl
  what_of-named (Array p) w = refl
  what_of-named (Text p) w = refl
  what_of-named (Dictionary a) w = refl
  what_of-named (Lock a) w = refl
  what_of-named (Condition a) w = refl
  what_of-named (Body a) w = refl

  pub value_of-named : (w : Word) → IsWithin births names s w
      → value_of births (names ++ more) w ≡ value_of births names w
  unfolding value_of IsWithin
  value_of-named w inside =
      ap (λ what. record { what = what; executable = executable_in w.0 }) (what_of-named (content_in w.0) inside)

  pub values_of-named : (ws : List Word) → AllByRecursion (IsWithin births names s) ws
      → map (value_of births (names ++ more)) ws ≡ map (value_of births names) ws
  values_of-named [] inside = refl
  values_of-named (w ∷ ws) inside = λ i. value_of-named w inside.0 i ∷ values_of-named ws inside.1 i

  within_content-named : (content : Content) → IsWithinContent births names s content
      → IsWithinContent births (names ++ more) s content
  within_content-named Null w = tt
  within_content-named (Integer _) w = tt
  within_content-named (Boolean _) w = tt
  within_content-named Mark w = tt
  within_content-named (Name n) w = omega (arith, w, length-append names more)
  within_content-named (Operator _) w = tt
  within_content-named (Array p) w = tt
  within_content-named (Text p) w = w
  within_content-named (Dictionary a) w = tt
  within_content-named (Lock a) w = tt
  within_content-named (Condition a) w = tt
  within_content-named (Body a) w = tt

  pub IsWithin-named : (w : Word) → IsWithin births names s w → IsWithin births (names ++ more) s w
  unfolding IsWithin
  IsWithin-named w inside = within_content-named (content_in w.0) inside

  pub AreWithin-named : (ws : List Word) → AllByRecursion (IsWithin births names s) ws
      → AllByRecursion (IsWithin births (names ++ more) s) ws
  AreWithin-named [] inside = tt
  AreWithin-named (w ∷ ws) inside = (IsWithin-named w inside.0, AreWithin-named ws inside.1)

module _ (h : Heap) (names more : List (List ℕ)) (s : Store) (shows : Shows h names s) where
  within_pairs : (pairs : List (Word × Word)) (rest : List Word) → AreWithin h names s (words_of_pairs pairs ++ rest)
      → map (pair_of (birth_at h) (names ++ more)) pairs ≡ map (pair_of (birth_at h) names) pairs
  within_pairs [] rest inside = refl
  within_pairs (pair ∷ pairs) rest inside =
      λ i. (
        value_of-named names more (birth_at h) s pair.0 inside.0 i,
        value_of-named names more (birth_at h) s pair.1 inside.1.0 i,
      ) ∷ within_pairs pairs rest inside.1.1 i

  shown_dictionary-named : (birth : ℕ) (fields : List Word) (d : DictionaryValue)
      → ShowsDictionary h names birth fields d → ShowsDictionary h (names ++ more) birth fields d
  shown_dictionary-named birth fields d x =
      let inside : AreWithin h names s x.shape.body_fields =
      shows.within x.shape.body _ x.shape.stands (λ (e : BodyKind ≡ TextKind). cc) in
      record {
        shape = x.shape;
        count = x.count;
        capacity = x.capacity;
        access = x.access;
        pairs = x.pairs;
        index = x.index;
        holds = x.holds;
        are = x.are ∙ sym (within_pairs x.pairs _ (subst (AreWithin h names s) x.holds inside));
      }

  shown-named : {kind : Kind} {birth : ℕ} {fields : List Word} {object : Object}
      → (kind ≢ TextKind → AreWithin h names s fields) → IsShown h names kind birth fields object
      → IsShown h (names ++ more) kind birth fields object
  shown-named inside (shown_array {fields = fields} e) =
      shown_array (e
      ∙ sym (values_of-named names more (birth_at h) s fields (inside (λ (k : ArrayKind ≡ TextKind). cc))))
  shown-named inside (shown_text are e) = shown_text are e
  shown-named inside (shown_dictionary {birth = birth} {fields = fields} {d = d} x) =
      shown_dictionary (shown_dictionary-named birth fields d x)
  shown-named inside (shown_lock o) = shown_lock o
  shown-named inside shown_condition = shown_condition

  pub Shows-named : Shows h (names ++ more) s
  Shows-named = record {
    next = shows.next;
    objects = λ a o at body. let old = shows.objects a o at body in
        record {
          object = old.object;
          there = old.there;
          shown = shown-named (λ text. shows.within a o at text) old.shown;
        };
    within = λ a o at text. AreWithin-named names more (birth_at h) s o.fields (shows.within a o at text);
  }
