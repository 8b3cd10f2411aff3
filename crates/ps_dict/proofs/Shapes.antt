-- The fields of a dictionary that stands in a sound memory, and what is shown of it.
use Rattle.std.proofs.Common.{◌≡◌, ◌≢◌, ℕ, ◌*◌, ◌-◌, ◌^◌, ◌<◌, ◌≤◌, List, ◌++◌, length, map, take, drop, replicate, Some, None, refl, sym, ap, ◌∙◌, arith, subst, w32}
use Rattle.std.proofs.Common.{suc, ◌/◌, ◌%◌, inl, inr}
use Rattle.std.proofs.lemmas.Bool.{cases_lt}
use Rattle.std.proofs.lemmas.Int.{to_z_pos}
use mir.ValLaws.{to_z-neg}
use native.Mathlib.Decide.{ℕ_discrete}
use Rattle.ps_word.proofs.Places.{content_in-at, as_integer-other}
use Rattle.std.specs.Prelude.{pos, negsuc, slice_get, slice_index_or, unwrap_or}
use Rattle.std.specs.Int.{cast_signed}
use Rattle.std.specs.List.{AllByRecursion}
use Rattle.std.proofs.lemmas.List.{length-map}
use Rattle.std.proofs.lemmas.List.{length-take-le}
use Rattle.ps_language.specs.declared.kinds.Kind.TheVariants.{Text as TextKind, Dictionary as DictionaryKind, Body as BodyKind}
use Rattle.ps_language.specs.Value.{Dictionary as DictionaryValue, Object, array_object, string_object, dictionary_object, lock_object, condition_object, Store}
use Rattle.ps_language.specs.Access.{dictionary_at, dictionary_object_in}
use Rattle.ps_word.specs.declared.words.Word.{Word}
use Rattle.ps_word.specs.declared.values.Content.TheVariants.{Integer, Body}
use Rattle.ps_word.specs.declared.values.Value.{Value as WordValue}
use Rattle.ps_word.specs.Format.{content_in, access_number, access_of}
use Rattle.ps_word.specs.Readers.{as_integer, as_body}
use Rattle.ps_word.proofs.Packing.{access_of-number}
use Rattle.ps_mem.specs.Heap.{Heap, Standing, object_at, birth_of, birth_at, fields_of, fields_at, zero_word}
use Rattle.ps_mem.specs.References.{StandsAs}
use Rattle.ps_mem.specs.Shows.{IsValue, AreValues, IsNatural, DictionaryFields, AreFields, dictionary_fields, IsSound, IsWithin, AreWithin, words_of_pairs, pair_of, ShowsDictionary, IsShown, shown_dictionary, Shows}
use Rattle.ps_mem.proofs.Lists.{all_take}
use Rattle.ps_mem.proofs.ShowsLemmas.{body_values}
use Rattle.ps_dict.specs.Places.{natural_of, natural_in, body_in, count_at, capacity_at, access_at, body_at, pairs_at}
use Rattle.ps_mem.specs.Index.{pairs_of_words, index_words}
use Rattle.ps_dict.proofs.Pairs.{all_pairs, words-taken, length-pairs_of_words, pairs-of_words_of_pairs, take-front_all}

-- ---- fields

module _ (h : Heap) (birth : ℕ) (fields : List Word) (d : DictionaryFields h birth fields) where
  natural_word : (w : Word) (n : ℕ) → IsNatural w n → natural_of (as_integer (content_in w.0)) ≡ n
  natural_word w n is =
      let content : content_in w.0 ≡ Integer (pos n) = ap (λ (v : WordValue). v.content) is in
      ap (λ c. natural_of (as_integer c)) content

  pub count-in : natural_in fields 0 ≡ d.count
  unfolding natural_in
  count-in = ap (λ ws. natural_of (as_integer (content_in (slice_index_or ws 0 zero_word).0))) d.are
      ∙ natural_word d.count_word d.count d.count_is

  pub capacity-in : natural_in fields 1 ≡ d.capacity
  unfolding natural_in
  capacity-in = ap (λ ws. natural_of (as_integer (content_in (slice_index_or ws 1 zero_word).0)))
      d.are ∙ natural_word d.capacity_word d.capacity d.capacity_is

  pub access-in : natural_in fields 2 ≡ d.access
  unfolding natural_in
  access-in = ap (λ ws. natural_of (as_integer (content_in (slice_index_or ws 2 zero_word).0)))
      d.are ∙ natural_word d.access_word d.access d.access_is

  pub body-in : body_in fields 3 ≡ d.body
  unfolding body_in
  body-in =
      let content : content_in d.body_word.0 ≡ Body d.body =
      ap (λ (v : WordValue). v.content) d.body_is in
      ap (λ ws. unwrap_or (as_body (content_in (slice_index_or ws 3 zero_word).0)) 0) d.are
      ∙ ap (λ c. unwrap_or (as_body c) 0) content

  pub four-fields : length fields ≡ 4
  four-fields = ap length d.are

-- an integer of a word is small
pub natural-below : (w n : ℕ) → content_in w ≡ Integer (pos n) → n < 2 ^ 31
natural-below w n is = elim (ℕ_discrete (w / 2 ^ 60) 1) [
  | yes e ↦
      let number : Integer (cast_signed w32 (w % 2 ^ 32)) ≡ Integer (pos n) =
      sym (content_in-at w 1 e) ∙ is in
      let same : cast_signed w32 (w % 2 ^ 32) ≡ pos n = cc in
      let low : w % 2 ^ 32 < 2 ^ 32 = omega arith in
      elim (cases_lt (w % 2 ^ 32) (2 ^ 31)) [
        | inl small ↦ let is_pos : pos (w % 2 ^ 32) ≡ pos n = sym (to_z_pos w32 (w % 2 ^ 32) small)
            ∙ same in let one : w % 2 ^ 32 ≡ n = cc in omega (arith, small, one)
        | inr large ↦
            let k : ℕ = 2 ^ 32 - suc (w % 2 ^ 32) in
            let back : 2 ^ 32 - suc k ≡ w % 2 ^ 32 = omega (arith, large, low) in
            let below : k < 2 ^ 31 = omega (arith, large, low) in
            let negative : negsuc k ≡ pos n = sym (to_z-neg w32 k below)
            ∙ (ap (cast_signed w32) back ∙ same) in cc
      ]
  | no other ↦ let clash : None ≡ Some (pos n) = as_integer-other w other ∙ ap as_integer is in cc
]

-- ---- the dictionary at an address

dictionary_shape : (h : Heap) (birth : ℕ) (fields : List Word)
    → AreFields h DictionaryKind birth fields → DictionaryFields h birth fields
dictionary_shape h birth fields (dictionary_fields d) = d

record DictionaryShown (h : Heap) (names : List (List ℕ)) (birth : ℕ) (fields : List Word)
    (object : Object) : Type 0 where
  pub value : DictionaryValue
  pub is : object ≡ dictionary_object value
  pub shown : ShowsDictionary h names birth fields value

dictionary_shown : (h : Heap) (names : List (List ℕ)) (birth : ℕ) (fields : List Word)
    (object : Object) → IsShown h names DictionaryKind birth fields object
    → DictionaryShown h names birth fields object
dictionary_shown h names birth fields (dictionary_object d) (shown_dictionary s) =
    record { value = d; is = refl; shown = s }
dictionary_shown h names birth fields (array_object _) x = elim x [ ]
dictionary_shown h names birth fields (string_object _) x = elim x [ ]
dictionary_shown h names birth fields (lock_object _) x = elim x [ ]
dictionary_shown h names birth fields condition_object x = elim x [ ]

module _ (h : Heap) (a : ℕ) (known : StandsAs h DictionaryKind a 4) where
  abbrev pub dictionary : Standing
  dictionary = known.object

  pub fields-dictionary : fields_at h a ≡ dictionary.fields
  unfolding fields_at
  fields-dictionary = ap fields_of known.at

  pub birth-dictionary : birth_at h a ≡ dictionary.birth
  unfolding birth_at
  birth-dictionary = ap birth_of known.at

  pub dictionary_is_no_text : dictionary.kind ≢ TextKind
  dictionary_is_no_text k = let clash : DictionaryKind ≡ TextKind = sym known.kind_is ∙ k in cc

  pub dictionary_is_no_body : dictionary.kind ≢ BodyKind
  dictionary_is_no_body k = let clash : DictionaryKind ≡ BodyKind = sym known.kind_is ∙ k in cc

  module _ (sound : IsSound h) where
    pub shape : DictionaryFields h (birth_at h a) (fields_at h a)
    shape =
        subst (λ n. DictionaryFields h n (fields_at h a)) (sym birth-dictionary)
        (subst (DictionaryFields h dictionary.birth) (sym fields-dictionary)
        (dictionary_shape h dictionary.birth dictionary.fields
        (subst (λ k. AreFields h k dictionary.birth dictionary.fields) known.kind_is
        (sound.fields a dictionary known.at))))

    pub count-is : count_at h a ≡ shape.count
    count-is = count-in h (birth_at h a) (fields_at h a) shape

    pub capacity-is : capacity_at h a ≡ shape.capacity
    capacity-is = capacity-in h (birth_at h a) (fields_at h a) shape

    pub access-is : access_at h a ≡ shape.access
    access-is = access-in h (birth_at h a) (fields_at h a) shape

    pub body-is : body_at h a ≡ shape.body
    body-is = body-in h (birth_at h a) (fields_at h a) shape

    pub four : length (fields_at h a) ≡ 4
    four = four-fields h (birth_at h a) (fields_at h a) shape

    pub small-count : count_at h a < 2 ^ 31
    small-count = let e = count-is in let b =
        natural-below shape.count_word.0 shape.count
        (ap (λ (v : WordValue). v.content) shape.count_is) in omega (arith, e, b)

    pub small-capacity : capacity_at h a < 2 ^ 31
    small-capacity = let e = capacity-is in let b =
        natural-below shape.capacity_word.0 shape.capacity
        (ap (λ (v : WordValue). v.content) shape.capacity_is) in omega (arith, e, b)

    pub count-fits : count_at h a ≤ capacity_at h a
    count-fits = let e = count-is in let f = capacity-is in let g = shape.within in
        omega (arith, e, f, g)

    pub body_fields-is : fields_at h (body_at h a) ≡ shape.body_fields
    unfolding fields_at
    body_fields-is = ap fields_of (ap (object_at h) body-is ∙ shape.stands)

    pub body-stands : object_at h (body_at h a) ≡ Some
        (record { kind = BodyKind; birth = birth_at h a; fields = fields_at h (body_at h a) })
    body-stands =
        ap (object_at h) body-is ∙
        (shape.stands ∙ ap (λ (ws : List Word). Some
        (record { kind = BodyKind; birth = birth_at h a; fields = ws })) (sym body_fields-is))

    pub body-room : length (fields_at h (body_at h a)) ≡ 3 * capacity_at h a
    body-room = ap length body_fields-is ∙ (shape.room ∙ ap (λ n. 3 * n) (sym capacity-is))

    pub indexed-is : drop (2 * capacity_at h a) (fields_at h (body_at h a)) ≡ index_words
        (birth_at h) (capacity_at h a) (pairs_at h a)
    unfolding pairs_at
    indexed-is =
        ap (λ ws. drop (2 * capacity_at h a) ws) body_fields-is
        ∙ (ap (λ n. drop (2 * n) shape.body_fields) capacity-is
        ∙ (shape.indexed
        ∙ (ap (λ n. index_words (birth_at h) n
        (take shape.count (pairs_of_words shape.body_fields))) (sym capacity-is)
        ∙ (ap (λ n. index_words (birth_at h) (capacity_at h a)
        (take n (pairs_of_words shape.body_fields))) (sym count-is)
        ∙ ap (λ ws. index_words (birth_at h) (capacity_at h a)
        (take (count_at h a) (pairs_of_words ws))) (sym body_fields-is)))))

    pub body-values : AreValues h (fields_at h (body_at h a))
    body-values = body_values h (birth_at h a) (fields_at h (body_at h a))
        (sound.fields (body_at h a) _ body-stands)

    pub length-pairs : length (pairs_at h a) ≡ count_at h a
    unfolding pairs_at
    length-pairs =
        let room = body-room in
        let fits = count-fits in
        length-take-le (count_at h a) (pairs_of_words (fields_at h (body_at h a)))
        (length-pairs_of_words (count_at h a) (fields_at h (body_at h a))
        (omega (arith, room, fits)))

    -- the words of the pairs
    pub pair-words : take (2 * count_at h a) (fields_at h (body_at h a)) ≡ words_of_pairs
        (pairs_at h a)
    unfolding pairs_at
    pair-words = let room = body-room in let fits = count-fits in
        sym (words-taken (count_at h a) (fields_at h (body_at h a)) (omega (arith, room, fits)))

    pub pairs-values : AllByRecursion (λ (pair : Word × Word). IsValue h pair.0 × IsValue h pair.1)
        (pairs_at h a)
    unfolding pairs_at
    pairs-values = all_take _ (count_at h a) _
        (all_pairs (IsValue h) (fields_at h (body_at h a)) body-values)

    module _ (names : List (List ℕ)) (s : Store) (shows : Shows h names s) where
      pub body-within : AreWithin h names s (fields_at h (body_at h a))
      body-within = shows.within (body_at h a) _ body-stands
          (λ k. let clash : BodyKind ≡ TextKind = k in cc)

      pub pairs-within : AllByRecursion
          (λ (pair : Word × Word). IsWithin (birth_at h) names s pair.0
          × IsWithin (birth_at h) names s pair.1) (pairs_at h a)
      unfolding pairs_at
      pairs-within = all_take _ (count_at h a) _
          (all_pairs (IsWithin (birth_at h) names s) (fields_at h (body_at h a)) body-within)

      found : DictionaryShown h names (birth_at h a) (fields_at h a)
          (shows.objects a dictionary known.at dictionary_is_no_body).object
      found =
          let there = shows.objects a dictionary known.at dictionary_is_no_body in
          dictionary_shown h names (birth_at h a) (fields_at h a) there.object
          (subst (λ n. IsShown h names DictionaryKind n (fields_at h a) there.object)
          (sym birth-dictionary)
          (subst (λ ws. IsShown h names DictionaryKind dictionary.birth ws there.object)
          (sym fields-dictionary)
          (subst (λ k. IsShown h names k dictionary.birth dictionary.fields there.object)
          known.kind_is there.shown)))

      found_there : slice_get s (birth_at h a) ≡ Some (dictionary_object found.value)
      found_there =
          let there = shows.objects a dictionary known.at dictionary_is_no_body in
          ap (slice_get s) birth-dictionary ∙ (there.there ∙ ap Some found.is)

      found_value : dictionary_at s (birth_at h a) ≡ found.value
      unfolding dictionary_at
      found_value = ap dictionary_object_in found_there

      pub there : slice_get s (birth_at h a) ≡ Some
          (dictionary_object (dictionary_at s (birth_at h a)))
      there = found_there ∙ ap (λ d. Some (dictionary_object d)) (sym found_value)

      pub shown : ShowsDictionary h names (birth_at h a) (fields_at h a)
          (dictionary_at s (birth_at h a))
      shown = subst (ShowsDictionary h names (birth_at h a) (fields_at h a)) (sym found_value)
          found.shown

      pub count-shown : count_at h a ≡ length (dictionary_at s (birth_at h a)).pairs
      count-shown = count-in h (birth_at h a) (fields_at h a) shown.shape ∙ shown.count

      pub capacity-shown : capacity_at h a ≡ (dictionary_at s (birth_at h a)).capacity
      capacity-shown = capacity-in h (birth_at h a) (fields_at h a) shown.shape ∙ shown.capacity

      pub access-shown : access_at h a ≡ access_number (dictionary_at s (birth_at h a)).access
      access-shown = access-in h (birth_at h a) (fields_at h a) shown.shape ∙ shown.access

      pub access_of-shown : access_of (access_at h a) ≡ (dictionary_at s (birth_at h a)).access
      access_of-shown = ap access_of access-shown ∙ access_of-number _

      body_shown : fields_at h (body_at h a) ≡ shown.shape.body_fields
      unfolding fields_at
      body_shown = ap fields_of
          (ap (object_at h) (body-in h (birth_at h a) (fields_at h a) shown.shape)
          ∙ shown.shape.stands)

      pairs_are : shown.pairs ≡ pairs_at h a
      unfolding pairs_at
      pairs_are =
          let rest : List Word = replicate
          (2 * ((dictionary_at s (birth_at h a)).capacity - length
          (dictionary_at s (birth_at h a)).pairs)) zero_word ++ shown.index in
          let count : length shown.pairs ≡ count_at h a =
          sym (ap length shown.are ∙ length-map shown.pairs (pair_of (birth_at h) names))
          ∙ sym count-shown in
          sym (ap (λ ws. take (count_at h a) (pairs_of_words ws)) (body_shown ∙ shown.holds)
          ∙ (ap (take (count_at h a)) (pairs-of_words_of_pairs shown.pairs rest)
          ∙ (ap (λ n. take n (shown.pairs ++ pairs_of_words rest)) (sym count)
          ∙ take-front_all shown.pairs (pairs_of_words rest))))

      pub pairs-shown : (dictionary_at s (birth_at h a)).pairs ≡ map (pair_of (birth_at h) names)
          (pairs_at h a)
      pairs-shown = shown.are ∙ ap (map (pair_of (birth_at h) names)) pairs_are

      pub holds-shown : fields_at h (body_at h a) ≡ words_of_pairs (pairs_at h a)
          ++ (replicate (2 * (capacity_at h a - count_at h a)) zero_word ++ shown.index)
      holds-shown =
          body_shown ∙ (shown.holds
          ∙ (ap (λ ps. words_of_pairs ps
          ++ (replicate (2 * ((dictionary_at s (birth_at h a)).capacity - length
          (dictionary_at s (birth_at h a)).pairs)) zero_word ++ shown.index)) pairs_are
          ∙ ap (λ n. words_of_pairs (pairs_at h a) ++ (replicate (2 * n) zero_word ++ shown.index))
          less))
        where
          less : (dictionary_at s (birth_at h a)).capacity - length
              (dictionary_at s (birth_at h a)).pairs ≡ capacity_at h a - count_at h a
          less = let c = count-shown in let k = capacity-shown in omega (arith, c, k)
