-- A store into the fields of a dictionary, and one into its body.
use Rattle.std.proofs.Common.{◌≡◌, ◌≢◌, ℕ, ◌+◌, ◌*◌, ◌-◌, ◌≤◌, List, [], ◌∷◌, ◌++◌, length, map, take, replicate, Some, refl, sym, ap, ◌∙◌, arith, subst}
use Rattle.std.proofs.Common.{zero, suc}
use Rattle.std.specs.Prelude.{slice_get, slice_set}
use Rattle.ps_language.specs.declared.kinds.Kind.TheVariants.{Dictionary as DictionaryKind, Body as BodyKind}
use Rattle.ps_language.specs.Value.{Dictionary as DictionaryValue, Object, dictionary_object, Store}
use Rattle.std.proofs.Common.{inl, inr}
use Rattle.std.proofs.lemmas.Bool.{cases_eq}
use Rattle.ps_language.specs.Access.{bytes, bytes_in, splice, dictionary_at, dictionary_object_in, with_dictionary}
use Rattle.ps_word.specs.declared.words.Word.{Word}
use Rattle.ps_word.specs.Format.{access_number}
use Rattle.ps_mem.specs.Heap.{Heap, Standing, object_at, birth_at, fields_of, fields_at, stored, zero_word}
use Rattle.ps_mem.specs.Keeps.{Keeps}
use Rattle.ps_mem.specs.References.{StandsAs, AreKnown}
use Rattle.ps_mem.specs.Shows.{DictionaryFields, AreFields, dictionary_fields, IsSound, AreWithin, words_of_pairs, pair_of, ShowsDictionary, Shows}
use Rattle.ps_mem.proofs.Lists.{slice_get-set_same, slice_get-set_other}
use Rattle.ps_mem.proofs.HeapLemmas.{object_at-stored_same, object_at-stored_other, birth_at-stored}
use Rattle.ps_mem.proofs.KeepsLemmas.{Keeps-stored}
use Rattle.ps_mem.proofs.StoreLemmas.{IsSound-stored_object}
use Rattle.ps_mem.proofs.StoreShows.{Shows-stored_dictionary}
use Rattle.ps_dict.specs.Places.{natural_in, body_in, count_at, capacity_at, body_at}
use Rattle.ps_mem.specs.Index.{pairs_of_words, index_words}
use Rattle.ps_dict.proofs.Shapes.{count-in, capacity-in, body-in, fields-dictionary, birth-dictionary, dictionary_is_no_body, four, body-stands, there}

-- ---- the store of the language

pub with_twice : (s : Store) (b : ℕ) (first second : DictionaryValue)
    → with_dictionary (with_dictionary s b first) b second ≡ with_dictionary s b second
unfolding with_dictionary
with_twice s b first second = twice s b
  where
    twice : (s : Store) (b : ℕ)
        → slice_set (slice_set s b (dictionary_object first)) b (dictionary_object second) ≡
        slice_set s b (dictionary_object second)
    twice [] b = refl
    twice (x ∷ s) zero = refl
    twice (x ∷ s) (suc b) = ap (λ t. x ∷ t) (twice s b)

pub dictionary_at-with : (s : Store) (b : ℕ) (old : Object) (new : DictionaryValue)
    → slice_get s b ≡ Some old → dictionary_at (with_dictionary s b new) b ≡ new
unfolding dictionary_at with_dictionary
dictionary_at-with s b old new at =
    ap dictionary_object_in (slice_get-set_same s b (dictionary_object new) old at)

-- no string has changed
pub with-lengths : (s : Store) (b : ℕ) (old new : DictionaryValue)
    → slice_get s b ≡ Some (dictionary_object old) → (birth : ℕ)
    → length (bytes s birth) ≤ length (bytes (with_dictionary s b new) birth)
unfolding with_dictionary bytes
with-lengths s b old new at birth = elim (cases_eq b birth) [
  | inl same ↦
      let was : slice_get s birth ≡ Some (dictionary_object old) = ap (slice_get s) (sym same)
      ∙ at in
      let none : length (bytes_in (slice_get s birth)) ≡ 0 = ap (λ x. length (bytes_in x)) was in
      omega (arith, none)
  | inr other ↦
      let same : length (bytes_in (slice_get (slice_set s b (dictionary_object new)) birth)) ≡
      length (bytes_in (slice_get s birth)) =
      ap (λ x. length (bytes_in x))
      (slice_get-set_other s b birth (dictionary_object new) other) in
      omega (arith, same)
]

-- ---- what a store leaves

pub fields-stored_other : (h : Heap) (a place : ℕ) (items : List Word) (b : ℕ) → a ≢ b
    → fields_at (stored h a place items) b ≡ fields_at h b
unfolding fields_at
fields-stored_other h a place items b apart =
    ap fields_of (object_at-stored_other h a place items b apart)

pub fields-stored_same : (h : Heap) (a place : ℕ) (items : List Word) (o : Standing)
    → object_at h a ≡ Some o → fields_at (stored h a place items) a ≡ splice (fields_at h a) place
    items
unfolding fields_at
fields-stored_same h a place items o at = ap fields_of (object_at-stored_same h a place items o at)
    ∙ ap (λ ws. splice ws place items) (sym (ap fields_of at))

module _ (h : Heap) (a : ℕ) (known : StandsAs h DictionaryKind a 4) (sound : IsSound h) where
  -- what is of another kind stands elsewhere
  pub apart : (b : ℕ) (o : Standing) → object_at h b ≡ Some o → o.kind ≡ BodyKind → a ≢ b
  apart b o at kind same =
      let one : Some known.object ≡ Some o = sym known.at ∙ (ap (object_at h) same ∙ at) in
      let is : known.object ≡ o = cc in
      let clash : DictionaryKind ≡ BodyKind = sym known.kind_is
      ∙ (ap (λ (x : Standing). x.kind) is ∙ kind) in cc

  pub apart-body : a ≢ body_at h a
  apart-body = apart (body_at h a) _ (body-stands h a known sound) refl

  length-fields : length known.object.fields ≡ 4
  length-fields = ap length (sym (fields-dictionary h a known)) ∙ four h a known sound

  -- ---- into the fields

  module _ (place : ℕ) (items : List Word) (fits : place + length items ≤ 4)
      (d : DictionaryFields h (birth_at h a) (splice (fields_at h a) place items)) where
    abbrev now : Heap
    now = stored h a place items

    inside : place + length items ≤ length known.object.fields
    inside = let n = length-fields in omega (arith, fits, n)

    new_fields : splice known.object.fields place items ≡ splice (fields_at h a) place items
    new_fields = ap (λ ws. splice ws place items) (sym (fields-dictionary h a known))

    pub fields-now : fields_at now a ≡ splice (fields_at h a) place items
    fields-now = fields-stored_same h a place items known.object known.at

    pub fields-keeps : Keeps h now
    fields-keeps = Keeps-stored h a place items known.object known.at inside

    abbrev shape-now : DictionaryFields now (birth_at h a) (splice (fields_at h a) place items)
    shape-now = record {
      count_word = d.count_word;
      capacity_word = d.capacity_word;
      access_word = d.access_word;
      body_word = d.body_word;
      are = d.are;
      count = d.count;
      capacity = d.capacity;
      access = d.access;
      body = d.body;
      body_fields = d.body_fields;
      count_is = d.count_is;
      capacity_is = d.capacity_is;
      access_is = d.access_is;
      body_is = d.body_is;
      stands = object_at-stored_other h a place items d.body (apart d.body _ d.stands refl)
          ∙ d.stands;
      within = d.within;
      room = d.room;
      few = d.few;
      indexed = d.indexed ∙ ap (λ births. index_words births d.capacity
          (take d.count (pairs_of_words d.body_fields))) (sym (birth_at-stored h a place items));
    }

    pub fields-sound : IsSound now
    fields-sound =
        IsSound-stored_object h a place items known.object known.at inside sound
        (dictionary_is_no_body h a known)
        (subst (λ k. AreFields now k known.object.birth (splice known.object.fields place items))
        (sym known.kind_is)
        (subst (λ n. AreFields now DictionaryKind n (splice known.object.fields place items))
        (birth-dictionary h a known)
        (subst (AreFields now DictionaryKind (birth_at h a)) (sym new_fields)
        (dictionary_fields shape-now))))

    pub fields-count : count_at now a ≡ d.count
    fields-count = ap (λ ws. natural_in ws 0) fields-now ∙ count-in h (birth_at h a) _ d

    pub fields-capacity : capacity_at now a ≡ d.capacity
    fields-capacity = ap (λ ws. natural_in ws 1) fields-now ∙ capacity-in h (birth_at h a) _ d

    pub fields-body : body_at now a ≡ d.body
    fields-body = ap (λ ws. body_in ws 3) fields-now ∙ body-in h (birth_at h a) _ d

    pub fields-body_words : fields_at now (body_at now a) ≡ d.body_fields
    unfolding fields_at
    fields-body_words = ap fields_of (ap (object_at now) fields-body ∙ shape-now.stands)

    module _ (names : List (List ℕ)) (s : Store) (shows : Shows h names s)
        (items_known : AreKnown h items) (items_within : AreWithin h names s items)
        (new : DictionaryValue) (pairs : List (Word × Word)) (index : List Word)
        (count : d.count ≡ length new.pairs) (capacity : d.capacity ≡ new.capacity)
        (access : d.access ≡ access_number new.access)
        (are : new.pairs ≡ map (pair_of (birth_at h) names) pairs)
        (holds : d.body_fields ≡ words_of_pairs pairs
        ++ (replicate (2 * (d.capacity - d.count)) zero_word ++ index)) where
      shows-now : ShowsDictionary now names (birth_at h a) (splice (fields_at h a) place items) new
      shows-now = record {
        shape = shape-now;
        count = count;
        capacity = capacity;
        access = access;
        pairs = pairs;
        index = index;
        holds = holds ∙ ap (λ n. words_of_pairs pairs ++ (replicate (2 * n) zero_word ++ index))
            left;
        are = are ∙ ap (λ births. map (pair_of births names) pairs)
            (sym (birth_at-stored h a place items));
      }
        where
          left : d.capacity - d.count ≡ new.capacity - length new.pairs
          left = omega (arith, count, capacity)

      pub fields-shows : Shows now names (with_dictionary s (birth_at h a) new)
      fields-shows =
          subst (λ n. Shows now names (with_dictionary s n new)) (sym (birth-dictionary h a known))
          (Shows-stored_dictionary h a place items known.object known.at inside sound names s shows
          known.kind_is (dictionary_at s (birth_at h a)) new
          (ap (slice_get s) (sym (birth-dictionary h a known))
          ∙ there h a known sound names s shows)
          (subst (λ n. ShowsDictionary now names n (splice known.object.fields place items) new)
          (birth-dictionary h a known)
          (subst (λ ws. ShowsDictionary now names (birth_at h a) ws new) (sym new_fields)
          shows-now))
          items_known items_within)
