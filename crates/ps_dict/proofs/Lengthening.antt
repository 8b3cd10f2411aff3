-- A dictionary with a pair more: its count, the pair behind the others and its word of the index.
use Rattle.std.proofs.Common.{◌≡◌, ◌≢◌, ℕ, zero, suc, ◌+◌, ◌-◌, ◌*◌, ◌%◌, ◌<◌, ◌≤◌, List, [], ◌∷◌, ◌++◌, length, take, drop, replicate, Some, None, refl, sym, ap, ◌∙◌, arith, subst, length-append, length-drop}
use Rattle.std.specs.Prelude.{slice_set}
use Rattle.std.proofs.lemmas.List.{map-append}
use Rattle.ps_language.specs.declared.kinds.Kind.TheVariants.{Dictionary as DictionaryKind, Body as BodyKind}
use Rattle.ps_language.specs.Value.{Store}
use Rattle.ps_language.specs.Access.{splice, dictionary_at, with_dictionary}
use Rattle.ps_word.specs.declared.words.Word.{Word}
use Rattle.ps_mem.specs.Heap.{Heap, object_at, birth_at, fields_of, fields_at, stored, zero_word}
use Rattle.ps_mem.specs.Index.{pairs_of_words, hash_of, hashes_of, placed, index_of, index_words}
use Rattle.ps_mem.specs.Keeps.{Keeps, Extends}
use Rattle.ps_mem.specs.References.{StandsAs, IsKnown, AreKnown}
use Rattle.ps_mem.specs.Meaning.{value_of}
use Rattle.ps_mem.specs.Shows.{IsNatural, IsValue, AreValues, DictionaryFields, IsSound, IsWithin, words_of_pairs, pair_of, Shows}
use Rattle.ps_mem.proofs.Lists.{all_splice, length-splice, splice-one, drop-splice}
use Rattle.ps_mem.proofs.HeapLemmas.{object_at-stored_same, object_at-stored_other, birth_at-stored, rest_of, rest-stored, stored_more, length-fields_at_stored}
use Rattle.ps_mem.proofs.KeepsLemmas.{Keeps-stored, IsValue-kept, IsKnown-kept, Extends-stored}
use Rattle.ps_mem.proofs.ShowsLemmas.{known_fields}
use Rattle.ps_dict.specs.Places.{natural_in, body_in, count_at, capacity_at, body_at, pairs_at}
use Rattle.ps_dict.proofs.Shapes.{count-in, capacity-in, body-in, shape, fields-dictionary, dictionary_is_no_text, capacity-is, body-is, body-stands, body-room, body-values, body-within, count-fits, length-pairs, indexed-is, shown, pairs-shown, holds-shown}
use Rattle.ps_dict.proofs.Changing.{apart-body}
use Rattle.ps_dict.proofs.Naturals.{count_fields, natural-within}
use Rattle.ps_dict.proofs.Appending.{index_words-more, splice-behind, drop-splice_at, front-words, body_more, body_more-is, pairs-body_more}
use Rattle.ps_dict.proofs.Rewriting.{shape-after, rewritten-keeps, rewritten-sound, rewritten-shows}

length-zeros : (n : ℕ) → length (replicate n zero_word) ≡ n
length-zeros zero = refl
length-zeros (suc n) = ap suc (length-zeros n)

module _ (h : Heap) (a : ℕ) (known : StandsAs h DictionaryKind a 4) (sound : IsSound h)
    (room : count_at h a < capacity_at h a)
    (w last key value : Word) (is : IsNatural w (count_at h a + 1)) (held : IsValue h w)
    (last_is : IsNatural last (count_at h a)) (last_held : IsValue h last)
    (key_held : IsValue h key) (value_held : IsValue h value)
    (p : ℕ) (below : p < capacity_at h a)
    (free : placed (count_at h a) (hash_of (birth_at h) key % capacity_at h a)
    (index_of (capacity_at h a) (hashes_of (birth_at h) (pairs_at h a))) ≡ slice_set
    (index_of (capacity_at h a) (hashes_of (birth_at h) (pairs_at h a))) p
    (Some (count_at h a))) where
  abbrev pub after_count : Heap
  after_count = stored h a 0 (w ∷ [])

  abbrev pub after_pair : Heap
  after_pair = stored after_count (body_at h a) (2 * count_at h a) (key ∷ value ∷ [])

  abbrev pub after_index : Heap
  after_index = stored after_pair (body_at h a) (2 * capacity_at h a + p) (last ∷ [])

  abbrev pub more : List (Word × Word)
  more = pairs_at h a ++ (key, value) ∷ []

  abbrev ws : List Word
  ws = fields_at h (body_at h a)

  abbrev with_pair : List Word
  with_pair = splice ws (2 * count_at h a) (key ∷ value ∷ [])

  abbrev with_index : List Word
  with_index = splice with_pair (2 * capacity_at h a + p) (last ∷ [])

  pub length-more : length more ≡ count_at h a + 1
  length-more = length-append (pairs_at h a) ((key, value) ∷ [])
      ∙ ap (λ n. n + 1) (length-pairs h a known sound)

  pub pair-inside : 2 * count_at h a + 2 ≤ length ws
  pair-inside = let e = body-room h a known sound in omega (arith, e, room)

  length-with_pair : length with_pair ≡ length ws
  length-with_pair = length-splice ws (2 * count_at h a) (key ∷ value ∷ []) pair-inside

  pub index-inside : 2 * capacity_at h a + p + 1 ≤ length with_pair
  index-inside = let e = body-room h a known sound in let f = length-with_pair in
      omega (arith, e, f, below)

  length-with_index : length with_index ≡ length ws
  length-with_index = length-splice with_pair (2 * capacity_at h a + p) (last ∷ []) index-inside
      ∙ length-with_pair

  apart : a ≢ body_at h a
  apart = apart-body h a known sound

  body-first : object_at after_count (body_at h a) ≡ Some
      (record { kind = BodyKind; birth = birth_at h a; fields = ws })
  body-first = object_at-stored_other h a 0 (w ∷ []) (body_at h a) apart
      ∙ body-stands h a known sound

  body-second : object_at after_pair (body_at h a) ≡ Some
      (record { kind = BodyKind; birth = birth_at h a; fields = with_pair })
  body-second = object_at-stored_same after_count (body_at h a) (2 * count_at h a)
      (key ∷ value ∷ []) (record { kind = BodyKind; birth = birth_at h a; fields = ws }) body-first

  at-body : object_at after_index (body_at h a) ≡ Some
      (record { kind = BodyKind; birth = birth_at h a; fields = with_index })
  at-body = object_at-stored_same after_pair (body_at h a) (2 * capacity_at h a + p) (last ∷ [])
      (record { kind = BodyKind; birth = birth_at h a; fields = with_pair }) body-second

  at-dictionary : object_at after_index a ≡ Some
      (record known.object { fields = splice known.object.fields 0 (w ∷ []) })
  at-dictionary =
      object_at-stored_other after_pair (body_at h a) (2 * capacity_at h a + p) (last ∷ []) a
      (λ e. apart (sym e))
      ∙ (object_at-stored_other after_count (body_at h a) (2 * count_at h a) (key ∷ value ∷ []) a
      (λ e. apart (sym e))
      ∙ object_at-stored_same h a 0 (w ∷ []) known.object known.at)

  at-others : (c : ℕ) → a ≢ c → body_at h a ≢ c → object_at after_index c ≡ object_at h c
  at-others c ne ne' =
      object_at-stored_other after_pair (body_at h a) (2 * capacity_at h a + p) (last ∷ []) c ne'
      ∙ (object_at-stored_other after_count (body_at h a) (2 * count_at h a) (key ∷ value ∷ []) c
      ne'
      ∙ object_at-stored_other h a 0 (w ∷ []) c ne)

  rest-after : rest_of after_index ≡ rest_of h
  rest-after =
      rest-stored after_pair (body_at h a) (2 * capacity_at h a + p) (last ∷ [])
      ∙ (rest-stored after_count (body_at h a) (2 * count_at h a) (key ∷ value ∷ [])
      ∙ rest-stored h a 0 (w ∷ []))

  births-after : birth_at after_index ≡ birth_at h
  births-after =
      birth_at-stored after_pair (body_at h a) (2 * capacity_at h a + p) (last ∷ [])
      ∙ (birth_at-stored after_count (body_at h a) (2 * count_at h a) (key ∷ value ∷ [])
      ∙ birth_at-stored h a 0 (w ∷ []))

  is-more : IsNatural w (length more)
  is-more = subst (IsNatural w) (sym length-more) is

  fields-more : splice known.object.fields 0 (w ∷ []) ≡ w ∷ (shape h a known sound).capacity_word
      ∷ (shape h a known sound).access_word ∷ (shape h a known sound).body_word ∷ []
  fields-more = ap (λ xs. splice xs 0 (w ∷ [])) (sym (fields-dictionary h a known))
      ∙ count_fields h a known sound w (count_at h a + 1) is

  room-more : length more ≤ capacity_at h a
  room-more = let e = length-more in omega (arith, e, room)

  -- the words in front, and those behind
  far : ℕ
  far = 2 * capacity_at h a + p - 2 * (count_at h a + 1)

  front : ws ≡ words_of_pairs (pairs_at h a) ++ drop (2 * count_at h a) ws
  unfolding pairs_at
  front = front-words (count_at h a) ws
      (let e = body-room h a known sound in let f = count-fits h a known sound in
      omega (arith, e, f))

  as-more : (rest : List Word) → ws ≡ words_of_pairs (pairs_at h a) ++ rest
      → with_index ≡ body_more (pairs_at h a) rest key value far last
  unfolding far
  as-more rest e =
      let n = length-pairs h a known sound in
      let m = length-more in
      ap (λ xs. splice (splice xs (2 * count_at h a) (key ∷ value ∷ [])) (2 * capacity_at h a + p)
      (last ∷ [])) e
      ∙ (ap (λ i. splice (splice (words_of_pairs (pairs_at h a) ++ rest) i (key ∷ value ∷ []))
      (2 * capacity_at h a + p) (last ∷ [])) (omega (arith, n))
      ∙ ap (λ j. splice (splice (words_of_pairs (pairs_at h a) ++ rest) (2 * length (pairs_at h a))
      (key ∷ value ∷ [])) j (last ∷ [])) (omega (arith, m, room)))

  pairs-are : take (length more) (pairs_of_words with_index) ≡ more
  pairs-are = ap (λ xs. take (length more) (pairs_of_words xs))
      (as-more (drop (2 * count_at h a) ws) front)
      ∙ pairs-body_more (pairs_at h a) (drop (2 * count_at h a) ws) key value far last

  index-length : length (drop (2 * capacity_at h a) ws) ≡ capacity_at h a
  index-length = length-drop (2 * capacity_at h a) ws
      ∙ (let e = body-room h a known sound in omega (arith, e))

  index-now : drop (2 * capacity_at h a) with_index ≡ index_words (birth_at h) (capacity_at h a)
      more
  index-now =
      let n = length-pairs h a known sound in
      let long = length-with_pair in
      let full = body-room h a known sound in
      let count = index-length in
      drop-splice_at (2 * capacity_at h a) with_pair p (last ∷ []) (omega (arith, long, full))
      ∙ (ap (λ xs. splice xs p (last ∷ []))
      (drop-splice (2 * capacity_at h a) ws (2 * count_at h a) (key ∷ value ∷ [])
      (omega (arith, room)) pair-inside)
      ∙ (splice-one (drop (2 * capacity_at h a) ws) p last (omega (arith, count, below))
      ∙ (ap (λ xs. slice_set xs p last) (indexed-is h a known sound)
      ∙ index_words-more (birth_at h) (capacity_at h a) (pairs_at h a) key value p last
      (omega (arith, n, room)) (subst (IsNatural last) (sym n) last_is) last_held.word
      (subst (λ m. placed m (hash_of (birth_at h) key % capacity_at h a)
      (index_of (capacity_at h a) (hashes_of (birth_at h) (pairs_at h a))) ≡ slice_set
      (index_of (capacity_at h a) (hashes_of (birth_at h) (pairs_at h a))) p (Some m)) (sym n)
      free))))

  values-more : AreValues h with_index
  values-more =
      all_splice (IsValue h) with_pair (2 * capacity_at h a + p) (last ∷ [])
      (all_splice (IsValue h) ws (2 * count_at h a) (key ∷ value ∷ []) (body-values h a known sound)
      (key_held, (value_held, tt))) (last_held, tt)

  pub fits-second : 2 * count_at h a + 2 ≤ length (fields_at after_count (body_at h a))
  unfolding fields_at
  fits-second = let e = ap (λ o. length (fields_of o)) body-first in let f = pair-inside in
      omega (arith, e, f)

  pub fits-third : 2 * capacity_at h a + p + 1 ≤ length (fields_at after_pair (body_at h a))
  unfolding fields_at
  fits-third = let e = ap (λ o. length (fields_of o)) body-second in let f = index-inside in
      omega (arith, e, f)

  one-fits : 0 + 1 ≤ length known.object.fields
  one-fits = let e = ap length (fields-dictionary h a known) in let f =
      ap length (shape h a known sound).are in omega (arith, e, f)

  pub known-second : AreKnown after_count (key ∷ value ∷ [])
  known-second =
      let keeps = Keeps-stored h a 0 (w ∷ []) known.object known.at one-fits in (
        (IsValue-kept h after_count keeps key key_held).known,
        ((IsValue-kept h after_count keeps value value_held).known, tt),
      )

  pub appended-keeps : Keeps h after_index
  appended-keeps = rewritten-keeps h a known sound after_index
      (splice known.object.fields 0 (w ∷ [])) with_index at-dictionary at-body at-others rest-after
      births-after length-with_index w more is-more fields-more room-more pairs-are index-now
      values-more

  pub appended-sound : IsSound after_index
  appended-sound = rewritten-sound h a known sound after_index
      (splice known.object.fields 0 (w ∷ [])) with_index at-dictionary at-body at-others rest-after
      births-after length-with_index w more is-more fields-more room-more pairs-are index-now
      values-more

  -- what the fields say then

  abbrev shape-more : DictionaryFields after_index (birth_at h a)
      (splice known.object.fields 0 (w ∷ []))
  shape-more = shape-after h a known sound after_index (splice known.object.fields 0 (w ∷ []))
      with_index at-dictionary at-body at-others rest-after births-after length-with_index w more
      is-more fields-more room-more pairs-are index-now values-more

  fields-appended : fields_at after_index a ≡ splice known.object.fields 0 (w ∷ [])
  unfolding fields_at
  fields-appended = ap fields_of at-dictionary

  pub appended-count : count_at after_index a ≡ count_at h a + 1
  appended-count = ap (λ xs. natural_in xs 0) fields-appended
      ∙ (count-in after_index (birth_at h a) (splice known.object.fields 0 (w ∷ [])) shape-more
      ∙ length-more)

  pub appended-capacity : capacity_at after_index a ≡ capacity_at h a
  appended-capacity = ap (λ xs. natural_in xs 1) fields-appended
      ∙ (capacity-in after_index (birth_at h a) (splice known.object.fields 0 (w ∷ [])) shape-more
      ∙ sym (capacity-is h a known sound))

  pub appended-body : body_at after_index a ≡ body_at h a
  appended-body = ap (λ xs. body_in xs 3) fields-appended
      ∙ (body-in after_index (birth_at h a) (splice known.object.fields 0 (w ∷ [])) shape-more
      ∙ sym (body-is h a known sound))

  pub appended-births : birth_at after_index ≡ birth_at h
  appended-births = births-after

  pub appended-extends : (g : Heap) → Extends g h → object_at g a ≡ None
      → object_at g (body_at h a) ≡ None → Extends g after_index
  appended-extends g extends free_a free_b =
      Extends-stored g after_pair (body_at h a) (2 * capacity_at h a + p) (last ∷ [])
      (Extends-stored g after_count (body_at h a) (2 * count_at h a) (key ∷ value ∷ [])
      (Extends-stored g h a 0 (w ∷ []) extends free_a) free_b) free_b

  -- the pair filled a word at a time

  abbrev pub after_key : Heap
  after_key = stored after_count (body_at h a) (2 * count_at h a) (key ∷ [])

  pub key-then-value : stored after_key (body_at h a) (2 * count_at h a + 1) (value ∷ []) ≡
      after_pair
  key-then-value = stored_more after_count (body_at h a) (2 * count_at h a) (key ∷ []) (value ∷ [])
      (let f = fits-second in omega (arith, f))

  pub value-place-now : 2 * count_at h a + 1 < length (fields_at after_key (body_at h a))
  value-place-now =
      let f = fits-second in
      let same : length (fields_at after_key (body_at h a)) ≡ length
      (fields_at after_count (body_at h a)) =
      length-fields_at_stored after_count (body_at h a) (2 * count_at h a) (key ∷ [])
      (omega (arith, f)) in
      omega (arith, f, same)

  pub value-known-now : IsKnown after_key value
  value-known-now =
      IsKnown-kept after_count after_key
      (Keeps-stored after_count (body_at h a) (2 * count_at h a) (key ∷ [])
      (record { kind = BodyKind; birth = birth_at h a; fields = ws }) body-first
      (let e = pair-inside in omega (arith, e)))
      value known-second.1.0

  module _ (names : List (List ℕ)) (s : Store) (shows : Shows h names s)
      (key_within : IsWithin (birth_at h) names s key)
      (value_within : IsWithin (birth_at h) names s value) where
    abbrev index-before : List Word
    index-before = (shown h a known sound names s shows).index

    -- two of the nulls are taken, and a word of the index is changed
    holds-more : with_index ≡ words_of_pairs more
        ++ (replicate (2 * (capacity_at h a - length more)) zero_word
        ++ splice index-before p (last ∷ []))
    unfolding far
    holds-more =
        let m = length-more in
        let left : ℕ = capacity_at h a - (count_at h a + 1) in
        let two : 2 * (capacity_at h a - count_at h a) ≡ 2 + 2 * left = omega (arith, room) in
        let behind : drop 2 (replicate (2 * (capacity_at h a - count_at h a)) zero_word
        ++ index-before) ≡ replicate (2 * left) zero_word ++ index-before =
        ap (λ n. drop 2 (replicate n zero_word ++ index-before)) two
        ∙ (dropped_two (2 * left) index-before) in
        as-more (replicate (2 * (capacity_at h a - count_at h a)) zero_word ++ index-before)
        (holds-shown h a known sound names s shows)
        ∙ (body_more-is (pairs_at h a)
        (replicate (2 * (capacity_at h a - count_at h a)) zero_word ++ index-before) key value
        far last
        ∙ (ap (λ xs. words_of_pairs more ++ splice xs far (last ∷ [])) behind
        ∙ (ap (λ xs. words_of_pairs more ++ xs)
        (splice-behind (replicate (2 * left) zero_word) index-before far p (last ∷ [])
        (let e = length-zeros (2 * left) in omega (arith, e, room)))
        ∙ ap (λ n. words_of_pairs more
        ++ (replicate (2 * n) zero_word ++ splice index-before p (last ∷ [])))
        (omega (arith, m)))))
      where
        dropped_two : (n : ℕ) (xs : List Word)
            → drop 2 (replicate (2 + n) zero_word ++ xs) ≡ replicate n zero_word ++ xs
        dropped_two n xs = let e : 2 + n ≡ suc (suc n) = omega arith in
            ap (λ m. drop 2 (replicate m zero_word ++ xs)) e

    pub appended-shows : Shows after_index names
        (with_dictionary s (birth_at h a)
        (record (dictionary_at s (birth_at h a)) {
          pairs = (dictionary_at s (birth_at h a)).pairs
              ++ (value_of (birth_at h) names key, value_of (birth_at h) names value) ∷ [];
        }))
    appended-shows =
        subst (λ ps. Shows after_index names
        (with_dictionary s (birth_at h a)
        (record (dictionary_at s (birth_at h a)) { pairs = ps })))
        (map-append (pair_of (birth_at h) names) (pairs_at h a) ((key, value) ∷ [])
        ∙ ap (λ ps. ps ++ (value_of (birth_at h) names key, value_of (birth_at h) names value)
        ∷ []) (sym (pairs-shown h a known sound names s shows)))
        (rewritten-shows h a known sound after_index (splice known.object.fields 0 (w ∷ []))
        with_index at-dictionary at-body at-others rest-after births-after length-with_index w
        more is-more fields-more room-more pairs-are index-now values-more
        names s shows (splice index-before p (last ∷ [])) holds-more
        (all_splice (IsWithin (birth_at h) names s) with_pair (2 * capacity_at h a + p) (last ∷ [])
        (all_splice (IsWithin (birth_at h) names s) ws (2 * count_at h a) (key ∷ value ∷ [])
        (body-within h a known sound names s shows) (key_within, (value_within, tt)))
        (natural-within last (count_at h a) last_is (birth_at h) names s, tt))
        (all_splice (IsKnown h) known.object.fields 0 (w ∷ [])
        (known_fields h sound a known.object known.at (dictionary_is_no_text h a known))
        (held.known, tt))
        (all_splice (IsWithin (birth_at h) names s) known.object.fields 0 (w ∷ [])
        (shows.within a known.object known.at (dictionary_is_no_text h a known))
        (natural-within w (count_at h a + 1) is (birth_at h) names s, tt)))
