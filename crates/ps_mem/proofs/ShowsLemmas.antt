-- When a memory goes on showing a store: what a store into an object and new objects leave shown.
use Rattle.std.proofs.Common.{◌≡◌, ◌≢◌, ℕ, ◌≤◌, ◌⊎◌, List, [], ◌∷◌, ◌++◌, length, map, take, Some, refl, sym, ap, arith, ◌∙◌, subst, inl, inr}
use Rattle.std.specs.Prelude.{slice_get}
use Rattle.std.specs.List.{AllByRecursion}
use Rattle.ps_language.specs.declared.kinds.Kind.{Kind}
use Rattle.ps_language.specs.declared.kinds.Kind.TheVariants.{Array as ArrayKind, Text as TextKind, Body as BodyKind}
use Rattle.ps_language.specs.Value.{Dictionary as DictionaryValue, Object, Store}
use Rattle.ps_language.specs.Access.{bytes}
use Rattle.ps_word.specs.declared.words.Word.{Word}
use Rattle.std.specs.Prelude.{pos}
use Rattle.ps_word.specs.declared.values.Value.{Value as WordValue}
use Rattle.ps_word.specs.declared.values.Content.TheVariants.{Integer, Body}
use Rattle.ps_word.specs.Format.{content_in}
use Rattle.ps_mem.specs.Heap.{Heap, Standing, object_at, birth_at, stored, zero_word}
use Rattle.ps_mem.specs.Index.{pairs_of_words}
use Rattle.ps_mem.specs.Keeps.{Keeps, KeepsBirth}
use Rattle.ps_mem.specs.References.{IsKnown, IsKnownContent, AreKnown}
use Rattle.ps_mem.specs.Shows.{IsNatural, AreValues, DictionaryFields, AreFields, array_fields, text_fields, dictionary_fields, lock_fields, condition_fields, body_fields, IsSound, AreWithin, words_of_pairs, pair_of, ShowsDictionary, IsShown, shown_array, shown_text, shown_dictionary, shown_lock, shown_condition, IsObject, Shows}
use Rattle.ps_mem.proofs.KeepsLemmas.{values_of-kept, value_of-kept, AreWithin-kept, known_values, index_words-kept, known_keys-first}

-- ---- what is shown of an object of which nothing has changed

known_pairs : (h : Heap) (pairs : List (Word × Word)) (rest : List Word)
    → AreKnown h (words_of_pairs pairs ++ rest)
    → AllByRecursion (λ (pair : Word × Word). IsKnown h pair.0 × IsKnown h pair.1) pairs
known_pairs h [] rest k = tt
known_pairs h (pair ∷ pairs) rest k = ((k.0, k.1.0), known_pairs h pairs rest k.1.1)

-- the words of a body are values
pub body_values : (h : Heap) (birth : ℕ) (fields : List Word) → AreFields h BodyKind birth fields
    → AreValues h fields
body_values h birth fields (body_fields v) = v

pub array_values : (h : Heap) (birth : ℕ) (fields : List Word) → AreFields h ArrayKind birth fields
    → AreValues h fields
array_values h birth fields (array_fields v) = v

module _ (g h : Heap) (keeps : Keeps g h) (names : List (List ℕ)) where
  pair_values : (pairs : List (Word × Word))
      → AllByRecursion (λ (pair : Word × Word). IsKnown g pair.0 × IsKnown g pair.1) pairs →
      map (pair_of (birth_at h) names) pairs ≡ map (pair_of (birth_at g) names) pairs
  pair_values [] k = refl
  pair_values (pair ∷ pairs) k =
      λ i. (
        value_of-kept g h keeps names pair.0 k.0.0 i,
        value_of-kept g h keeps names pair.1 k.0.1
            i,
      ) ∷ pair_values pairs k.1 i

  module _ (sound : IsSound g) (birth : ℕ) (same : KeepsBirth g h birth) where
    pub body_known : (fields : List Word) (d : DictionaryFields g birth fields)
        → AreKnown g d.body_fields
    body_known fields d = known_values g d.body_fields
        (body_values g birth d.body_fields (sound.fields d.body _ d.stands))

    abbrev pub shape-kept : (fields : List Word) → DictionaryFields g birth fields
        → DictionaryFields h birth fields
    shape-kept fields d = record {
      count_word = d.count_word;
      capacity_word = d.capacity_word;
      access_word = d.access_word;
      body_word = d.body_word;
      are = d.are;
      count = d.count;
      capacity = d.capacity;
      access = d.access;
      body = d.body;
      body_fields = d.body_fields;
      count_is = d.count_is;
      capacity_is = d.capacity_is;
      access_is = d.access_is;
      body_is = d.body_is;
      stands = same.same d.body _ d.stands refl;
      within = d.within;
      room = d.room;
      few = d.few;
      indexed = d.indexed ∙ sym (index_words-kept g h keeps d.capacity
          (take d.count (pairs_of_words d.body_fields))
          (known_keys-first g d.count d.body_fields (body_known fields d)));
    }

    shown_dictionary-kept : (fields : List Word) (d : DictionaryValue)
        → ShowsDictionary g names birth fields d → ShowsDictionary h names birth fields d
    shown_dictionary-kept fields d s =
        let known : AreKnown g (words_of_pairs s.pairs ++ _) =
        subst (AreKnown g) s.holds (body_known fields s.shape) in
        record {
          shape = shape-kept fields s.shape;
          count = s.count;
          capacity = s.capacity;
          access = s.access;
          pairs = s.pairs;
          index = s.index;
          holds = s.holds;
          are = s.are ∙ sym (pair_values s.pairs (known_pairs g s.pairs _ known));
        }

    pub shown-kept : {kind : Kind} {fields : List Word} {object : Object}
        → (kind ≢ TextKind → AreKnown g fields) → IsShown g names kind birth fields object
        → IsShown h names kind birth fields object
    shown-kept known (shown_array {fields = fields} e) =
        shown_array (e ∙ sym (values_of-kept g h keeps names fields (known (λ k. cc))))
    shown-kept known (shown_text are e) = shown_text are e
    shown-kept known (shown_dictionary {fields = fields} {d = d} s) =
        shown_dictionary (shown_dictionary-kept fields d s)
    shown-kept known (shown_lock o) = shown_lock o
    shown-kept known shown_condition = shown_condition

-- ---- the whole store

zero_known : (h : Heap) → IsKnown h zero_word
unfolding IsKnown content_in
zero_known h = tt

natural_known : (h : Heap) (w : Word) (n : ℕ) → IsNatural w n → IsKnown h w
unfolding IsKnown
natural_known h w n is =
    let content : content_in w.0 ≡ Integer (pos n) = ap (λ (v : WordValue). v.content) is in
    subst (IsKnownContent h) (sym content) tt

body_word_known : (h : Heap) (birth : ℕ) (fields : List Word) (d : DictionaryFields h birth fields)
    → IsKnown h d.body_word
unfolding IsKnown
body_word_known h birth fields d =
    let content : content_in d.body_word.0 ≡ Body d.body =
    ap (λ (v : WordValue). v.content) d.body_is in
    subst (IsKnownContent h) (sym content)
    (record { object = _; at = d.stands; kind_is = refl; fits = omega arith })

pub known_of : (h : Heap) {kind : Kind} {birth : ℕ} {fields : List Word}
    → AreFields h kind birth fields → kind ≢ TextKind → AreKnown h fields
known_of h (array_fields {fields = fields} v) text = known_values h fields v
known_of h text_fields text = absurd (text refl)
known_of h (dictionary_fields {birth = birth} {fields = fields} d) text =
    subst (AreKnown h) (sym d.are) (
      natural_known h d.count_word d.count d.count_is,
      (
        natural_known h d.capacity_word d.capacity d.capacity_is,
        (
          natural_known h d.access_word d.access d.access_is,
          (body_word_known h birth fields d, tt),
        ),
      ),
    )
known_of h (lock_fields {owner = owner} n is) text = (natural_known h owner n is, tt)
known_of h condition_fields text = (zero_known h, tt)
known_of h (body_fields {fields = fields} v) text = known_values h fields v

-- the fields of all that stands, strings aside, name what stands: of a dictionary its body too
pub known_fields : (h : Heap) → IsSound h → (a : ℕ) (o : Standing) → object_at h a ≡ Some o
    → o.kind ≢ TextKind → AreKnown h o.fields
known_fields h sound a o at text = known_of h (sound.fields a o at) text

-- what stands untouched, or is shown anew
module _ (g h : Heap) (keeps : Keeps g h) (names : List (List ℕ)) (sound : IsSound g) (s t : Store)
    (shows : Shows g names s)
    (next : h.next ≡ length t)
    (lengths : (birth : ℕ) → length (bytes s birth) ≤ length (bytes t birth))
    (objects : (a : ℕ) (o : Standing) → object_at h a ≡ Some o → o.kind ≢ BodyKind →
    ((object_at g a ≡ Some o) × KeepsBirth g h o.birth
    × (slice_get t o.birth ≡ slice_get s o.birth)) ⊎ IsObject h names t o.kind o.birth o.fields)
    (within : (a : ℕ) (o : Standing) → object_at h a ≡ Some o → o.kind ≢ TextKind
    → (object_at g a ≡ Some o) ⊎ AreWithin h names t o.fields) where
  untouched : (a : ℕ) (o : Standing) → o.kind ≢ BodyKind → (object_at g a ≡ Some o)
      × KeepsBirth g h o.birth × (slice_get t o.birth ≡ slice_get s o.birth)
      → IsObject h names t o.kind o.birth o.fields
  untouched a o body (at, same, stored) =
      let old = shows.objects a o at body in
      record {
        object = old.object;
        there = stored ∙ old.there;
        shown = shown-kept g h keeps names sound o.birth same
            (λ text. known_fields g sound a o at text) old.shown;
      }

  pub Shows-kept : Shows h names t
  Shows-kept = record {
    next = next;
    objects = λ a o at body. elim (objects a o at body) [
      | inl old ↦ untouched a o body old
      | inr new ↦ new
    ];
    within = λ a o at text. elim (within a o at text) [
      | inl old ↦ AreWithin-kept g h keeps names s t lengths o.fields
          (known_fields g sound a o old text) (shows.within a o old text)
      | inr new ↦ new
    ];
  }
