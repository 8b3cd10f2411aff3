-- Pairs more at the end of a dictionary, given by their words, and their positions in its index.
use Rattle.std.proofs.Common.{◌≡◌, ◌≢◌, ℕ, ◌+◌, ◌-◌, ◌*◌, ◌/◌, ◌%◌, ◌<◌, ◌≤◌, List, [], ◌∷◌, ◌++◌, length, map, take, drop, replicate, get_or, Some, refl, sym, ap, ◌∙◌, arith, subst, append_assoc, length-append}
use Rattle.std.proofs.lemmas.List.{map-append, append-nil, length-take-le, length-replicate, drop-append-le}
use Rattle.ps_language.specs.declared.kinds.Kind.TheVariants.{Dictionary as DictionaryKind, Body as BodyKind}
use Rattle.ps_language.specs.Value.{Store}
use Rattle.ps_language.specs.Access.{splice, dictionary_at, with_dictionary}
use Rattle.ps_word.specs.declared.words.Word.{Word}
use Rattle.ps_mem.specs.Heap.{Heap, object_at, birth_at, fields_of, fields_at, stored, zero_word, IsKind}
use Rattle.ps_mem.specs.Index.{pairs_of_words, hash_of, index_words}
use Rattle.ps_mem.specs.Keeps.{Keeps}
use Rattle.ps_mem.specs.References.{StandsAs, IsKnown, AreKnown}
use Rattle.ps_mem.specs.Shows.{IsNatural, IsValue, AreValues, IsSound, IsWithin, AreWithin, words_of_pairs, pair_of, Shows}
use Rattle.ps_mem.proofs.Lists.{all_splice, length-splice, splice-zero, drop-splice}
use Rattle.ps_mem.proofs.HeapLemmas.{object_at-stored_same, object_at-stored_other, birth_at-stored, rest_of, rest-stored}
use Rattle.ps_mem.proofs.KeepsLemmas.{Keeps-stored, IsValue-kept, AreValues-kept, known_values}
use Rattle.ps_mem.proofs.ShowsLemmas.{known_fields}
use Rattle.ps_dict.specs.Places.{count_at, capacity_at, body_at, pairs_at, IsPlaceFor}
use Rattle.ps_dict.proofs.Pairs.{words-append, pairs-of_words_of_pairs, take-front_all, length-words_of_pairs}
use Rattle.ps_dict.proofs.Shapes.{shape, four, fields-dictionary, dictionary_is_no_text, body-stands, body-room, body-values, body-within, count-fits, length-pairs, indexed-is, shown, pairs-shown, holds-shown}
use Rattle.ps_dict.proofs.Probing.{few-places}
use Rattle.ps_dict.proofs.Changing.{apart-body}
use Rattle.ps_dict.proofs.Naturals.{count_fields, natural-within}
use Rattle.ps_dict.proofs.Appending.{splice-behind, front-words}
use Rattle.ps_dict.proofs.Indexing.{drop-end, index-values, index-within, length-index_words, indexing-same, indexing-long, indexing-keeps, indexing-next, place-free}
use Rattle.ps_dict.proofs.Fresh.{take-next, all-there, length-in_twos, pair-in_twos}
use Rattle.ps_dict.proofs.Making.{drop-zeros}
use Rattle.ps_dict.proofs.Rewriting.{rewritten-keeps, rewritten-sound, rewritten-shows}

-- ---- their positions, one after another

module _ (h : Heap) (a : ℕ) (known : StandsAs h DictionaryKind a 4) (sound : IsSound h)
    (ws : List Word) (room : count_at h a + length ws / 2 ≤ capacity_at h a)
    (held : AreValues h ws) where
  abbrev firsts : ℕ → List (Word × Word)
  firsts i = pairs_at h a ++ take i (pairs_of_words ws)

  abbrev pub positions : ℕ → Heap
  positions i = stored h (body_at h a) (2 * capacity_at h a)
      (index_words (birth_at h) (capacity_at h a) (firsts i))

  stands : IsKind BodyKind (object_at h (body_at h a))
  stands = subst (IsKind BodyKind) (sym (body-stands h a known sound)) refl

  pub positions-none : h ≡ positions 0
  positions-none =
      let n = length-pairs h a known sound in
      let fits = count-fits h a known sound in
      sym (ap (λ ps. stored h (body_at h a) (2 * capacity_at h a)
      (index_words (birth_at h) (capacity_at h a) ps)) (append-nil (pairs_at h a))
      ∙ indexing-same h (body_at h a) (capacity_at h a) stands (body-room h a known sound)
      (pairs_at h a) (omega (arith, n, fits)) (indexed-is h a known sound))

  module _ (i : ℕ) (below : i < length ws / 2) where
    length-firsts : length (firsts i) ≡ count_at h a + i
    length-firsts =
        let n = length-pairs h a known sound in
        let twos = length-in_twos ws in
        let some = length-take-le i (pairs_of_words ws) (omega (arith, twos, below)) in
        length-append (pairs_at h a) (take i (pairs_of_words ws)) ∙ (omega (arith, n, some))

    few-firsts : length (firsts i) < capacity_at h a
    few-firsts = let n = length-firsts in omega (arith, n, below, room)

    module _ (k : Heap) (b c : ℕ) (now : k ≡ positions i) (is_body : b ≡ body_at h a)
        (is_capacity : c ≡ capacity_at h a) where
      pub few-now : c ≤ 21845
      few-now = let few = few-places h a known sound in omega (arith, few, is_capacity)

      pub long-now : length (fields_at k b) ≡ 3 * c
      long-now = ap (λ (x : Heap). length (fields_at x b)) now
          ∙ (ap (λ x. length (fields_at (positions i) x)) is_body
          ∙ (indexing-long h (body_at h a) (capacity_at h a) stands (body-room h a known sound)
          (firsts i) few-firsts ∙ ap (λ n. 3 * n) (sym is_capacity)))

      key-before : IsValue h (get_or ws (2 * i) zero_word)
      key-before = all-there (IsValue h) ws (2 * i) zero_word held (omega (arith, below))

      pub key-now : IsValue k (get_or ws (2 * i) zero_word)
      key-now = subst (λ (x : Heap). IsValue x (get_or ws (2 * i) zero_word)) (sym now)
          (IsValue-kept h (positions i)
          (indexing-keeps h (body_at h a) (capacity_at h a) stands (body-room h a known sound)
          (firsts i) few-firsts) (get_or ws (2 * i) zero_word) key-before)

      pub next-now : (p : ℕ) → p < c
          → IsPlaceFor (drop (2 * c) (fields_at k b)) c
          (hash_of (birth_at k) (get_or ws (2 * i) zero_word) % c) p
          → (n : ℕ) → n ≡ count_at h a → (w : Word) → IsNatural w (n + i) → IsValue h w
          → stored k b (2 * c + p) (w ∷ []) ≡ positions (i + 1)
      next-now p within given n is_count w natural word_held =
          let key = get_or ws (2 * i) zero_word in
          let value = get_or ws (2 * i + 1) zero_word in
          let length_now = length-firsts in
          let given_at = subst (λ m. IsPlaceFor (drop (2 * m) (fields_at k (body_at h a))) m
          (hash_of (birth_at k) key % m) p) is_capacity
          (subst (λ m. IsPlaceFor (drop (2 * c) (fields_at k m)) c
          (hash_of (birth_at k) key % c) p) is_body given) in
          ap (λ (x : Heap). stored x b (2 * c + p) (w ∷ [])) now
          ∙ (ap (λ x. stored (positions i) x (2 * c + p) (w ∷ [])) is_body
          ∙ (ap (λ x. stored (positions i) (body_at h a) (2 * x + p) (w ∷ [])) is_capacity
          ∙ (indexing-next h (body_at h a) (capacity_at h a) stands (body-room h a known sound)
          (firsts i) few-firsts key value p (omega (arith, within, is_capacity)) w
          (subst (IsNatural w) (omega (arith, is_count, length_now)) natural) word_held
          (place-free h (body_at h a) (capacity_at h a) stands (body-room h a known sound)
          (firsts i) few-firsts (few-places h a known sound) k p key now given_at)
          ∙ ap (λ ps. stored h (body_at h a) (2 * capacity_at h a)
          (index_words (birth_at h) (capacity_at h a) ps))
          (append_assoc (pairs_at h a) (take i (pairs_of_words ws)) ((key, value) ∷ [])
          ∙ ap (λ ps. pairs_at h a ++ ps)
          (sym (take-next (pairs_of_words ws) i (key, value)
          (pair-in_twos ws i zero_word below)))))))

-- ---- words in twos

pub words-of_twos : (ws : List Word) → 2 * (length ws / 2) ≡ length ws
    → words_of_pairs (pairs_of_words ws) ≡ ws
unfolding pairs_of_words
words-of_twos [] even = refl
words-of_twos (x ∷ []) even = absurd (omega (arith, even))
words-of_twos (x ∷ y ∷ ws) even =
    ap (λ zs. x ∷ y ∷ zs) (words-of_twos ws (omega (arith, even)))

drop-nulls : (m n : ℕ) (xs : List Word) → m ≤ n → drop m (replicate n zero_word ++ xs) ≡ replicate
    (n - m) zero_word ++ xs
drop-nulls m n xs fits =
    let zeros = length-replicate n zero_word in
    drop-append-le m (replicate n zero_word) xs (omega (arith, zeros, fits))
    ∙ ap (λ ws. ws ++ xs) (drop-zeros m n (n - m) (omega (arith, fits)))

-- ---- the dictionary with them

module _ (h : Heap) (a : ℕ) (known : StandsAs h DictionaryKind a 4) (sound : IsSound h)
    (ws : List Word) (even : 2 * (length ws / 2) ≡ length ws)
    (room : count_at h a + length ws / 2 ≤ capacity_at h a) (held : AreValues h ws) (w : Word)
    (is : IsNatural w (count_at h a + length ws / 2)) (w_held : IsValue h w) where
  abbrev pub more : List (Word × Word)
  more = pairs_at h a ++ pairs_of_words ws

  abbrev index : List Word
  index = index_words (birth_at h) (capacity_at h a) more

  abbrev pub after_positions : Heap
  after_positions = stored h (body_at h a) (2 * capacity_at h a) index

  abbrev pub after_words : Heap
  after_words = stored after_positions (body_at h a) (2 * count_at h a) ws

  abbrev pub after_number : Heap
  after_number = stored after_words a 0 (w ∷ [])

  abbrev old : List Word
  old = fields_at h (body_at h a)

  abbrev with_index : List Word
  with_index = splice old (2 * capacity_at h a) index

  abbrev with_words : List Word
  with_words = splice with_index (2 * count_at h a) ws

  length-more : length more ≡ count_at h a + length ws / 2
  length-more =
      let n = length-pairs h a known sound in
      let m = length-in_twos ws in
      length-append (pairs_at h a) (pairs_of_words ws) ∙ (omega (arith, n, m))

  room-more : length more ≤ capacity_at h a
  room-more = let n = length-more in omega (arith, n, room)

  length-index : length index ≡ capacity_at h a
  length-index = length-index_words (birth_at h) (capacity_at h a) more room-more

  index-fits : 2 * capacity_at h a + length index ≤ length old
  index-fits = let n = length-index in let e = body-room h a known sound in omega (arith, n, e)

  length-with_index : length with_index ≡ length old
  length-with_index = length-splice old (2 * capacity_at h a) index index-fits

  pub words-fit : 2 * count_at h a + length ws ≤ length with_index
  words-fit = let n = length-with_index in let e = body-room h a known sound in
      omega (arith, n, e, room, even)

  length-with_words : length with_words ≡ length old
  length-with_words = length-splice with_index (2 * count_at h a) ws words-fit ∙ length-with_index

  apart : a ≢ body_at h a
  apart = apart-body h a known sound

  body-positions : object_at after_positions (body_at h a) ≡ Some
      (record { kind = BodyKind; birth = birth_at h a; fields = with_index })
  body-positions = object_at-stored_same h (body_at h a) (2 * capacity_at h a) index
      (record { kind = BodyKind; birth = birth_at h a; fields = old }) (body-stands h a known sound)

  body-words : object_at after_words (body_at h a) ≡ Some
      (record { kind = BodyKind; birth = birth_at h a; fields = with_words })
  body-words = object_at-stored_same after_positions (body_at h a) (2 * count_at h a) ws
      (record { kind = BodyKind; birth = birth_at h a; fields = with_index }) body-positions

  at-body : object_at after_number (body_at h a) ≡ Some
      (record { kind = BodyKind; birth = birth_at h a; fields = with_words })
  at-body = object_at-stored_other after_words a 0 (w ∷ []) (body_at h a) apart ∙ body-words

  at-words : object_at after_words a ≡ Some known.object
  at-words =
      object_at-stored_other after_positions (body_at h a) (2 * count_at h a) ws a
      (λ e. apart (sym e))
      ∙ (object_at-stored_other h (body_at h a) (2 * capacity_at h a) index a
      (λ e. apart (sym e)) ∙ known.at)

  at-dictionary : object_at after_number a ≡ Some
      (record known.object { fields = splice known.object.fields 0 (w ∷ []) })
  at-dictionary = object_at-stored_same after_words a 0 (w ∷ []) known.object at-words

  pub several-others : (c : ℕ) → a ≢ c → body_at h a ≢ c → object_at after_number c ≡ object_at h c
  several-others c ne ne' =
      object_at-stored_other after_words a 0 (w ∷ []) c ne
      ∙ (object_at-stored_other after_positions (body_at h a) (2 * count_at h a) ws c ne'
      ∙ object_at-stored_other h (body_at h a) (2 * capacity_at h a) index c ne')

  rest-after : rest_of after_number ≡ rest_of h
  rest-after =
      rest-stored after_words a 0 (w ∷ [])
      ∙ (rest-stored after_positions (body_at h a) (2 * count_at h a) ws
      ∙ rest-stored h (body_at h a) (2 * capacity_at h a) index)

  pub several-births : birth_at after_number ≡ birth_at h
  several-births =
      birth_at-stored after_words a 0 (w ∷ [])
      ∙ (birth_at-stored after_positions (body_at h a) (2 * count_at h a) ws
      ∙ birth_at-stored h (body_at h a) (2 * capacity_at h a) index)

  is-more : IsNatural w (length more)
  is-more = subst (IsNatural w) (sym length-more) is

  fields-more : splice known.object.fields 0 (w ∷ []) ≡ w ∷ (shape h a known sound).capacity_word
      ∷ (shape h a known sound).access_word ∷ (shape h a known sound).body_word ∷ []
  fields-more = ap (λ xs. splice xs 0 (w ∷ [])) (sym (fields-dictionary h a known))
      ∙ count_fields h a known sound w (count_at h a + length ws / 2) is

  -- the words in front, and those behind
  front : old ≡ words_of_pairs (pairs_at h a) ++ drop (2 * count_at h a) old
  unfolding pairs_at
  front = front-words (count_at h a) old
      (let e = body-room h a known sound in let f = count-fits h a known sound in
      omega (arith, e, f))

  as-more : (rest : List Word) → old ≡ words_of_pairs (pairs_at h a) ++ rest
      → with_words ≡ words_of_pairs more
      ++ drop (length ws) (splice rest (2 * capacity_at h a - 2 * count_at h a) index)
  as-more rest e =
      let n = length-pairs h a known sound in
      let fits = count-fits h a known sound in
      let m = length-words_of_pairs (pairs_at h a) in
      let far : ℕ = 2 * capacity_at h a - 2 * count_at h a in
      ap (λ xs. splice (splice xs (2 * capacity_at h a) index) (2 * count_at h a) ws) e
      ∙ (ap (λ xs. splice xs (2 * count_at h a) ws)
      (splice-behind (words_of_pairs (pairs_at h a)) rest (2 * capacity_at h a) far index
      (omega (arith, n, m, fits)))
      ∙ (splice-behind (words_of_pairs (pairs_at h a)) (splice rest far index) (2 * count_at h a)
      0 ws (omega (arith, n, m))
      ∙ (ap (λ xs. words_of_pairs (pairs_at h a) ++ xs) (splice-zero (splice rest far index) ws)
      ∙ (ap (λ xs. words_of_pairs (pairs_at h a) ++ (xs ++ drop (length ws)
      (splice rest far index))) (sym (words-of_twos ws even))
      ∙ (sym (append_assoc (words_of_pairs (pairs_at h a)) (words_of_pairs (pairs_of_words ws))
      (drop (length ws) (splice rest far index)))
      ∙ ap (λ xs. xs ++ drop (length ws) (splice rest far index))
      (sym (words-append (pairs_at h a) (pairs_of_words ws))))))))

  pairs-are : take (length more) (pairs_of_words with_words) ≡ more
  pairs-are =
      let rest = drop (length ws) (splice (drop (2 * count_at h a) old)
      (2 * capacity_at h a - 2 * count_at h a) index) in
      ap (λ xs. take (length more) (pairs_of_words xs)) (as-more (drop (2 * count_at h a) old)
      front)
      ∙ (ap (take (length more)) (pairs-of_words_of_pairs more rest)
      ∙ take-front_all more (pairs_of_words rest))

  index-now : drop (2 * capacity_at h a) with_words ≡ index
  index-now =
      let n = length-index in
      let e = body-room h a known sound in
      drop-splice (2 * capacity_at h a) with_index (2 * count_at h a) ws
      (omega (arith, room, even)) words-fit
      ∙ drop-end (2 * capacity_at h a) old index (omega (arith, n, e))

  few : capacity_at h a ≤ 21845
  few = few-places h a known sound

  values-more : AreValues h with_words
  values-more =
      all_splice (IsValue h) with_index (2 * count_at h a) ws
      (all_splice (IsValue h) old (2 * capacity_at h a) index (body-values h a known sound)
      (index-values h (birth_at h) (capacity_at h a) more few room-more)) held

  -- the words that are stored, and the places that they are stored in
  pub words-place : 2 * count_at h a + length ws ≤ length (fields_at after_positions (body_at h a))
  unfolding fields_at
  words-place = let e = ap (λ o. length (fields_of o)) body-positions in let f = words-fit in
      omega (arith, e, f)

  pub words-known : AreKnown after_positions ws
  words-known =
      known_values after_positions ws
      (AreValues-kept h after_positions
      (Keeps-stored h (body_at h a) (2 * capacity_at h a) index
      (record { kind = BodyKind; birth = birth_at h a; fields = old }) (body-stands h a known sound)
      index-fits) ws held)

  pub number-place : 1 ≤ length (fields_at after_words a)
  unfolding fields_at
  number-place =
      let e = ap (λ o. length (fields_of o)) at-words in
      let f = ap length (fields-dictionary h a known) in
      let n = four h a known sound in
      omega (arith, e, f, n)

  pub several-keeps : Keeps h after_number
  several-keeps = rewritten-keeps h a known sound after_number
      (splice known.object.fields 0 (w ∷ [])) with_words at-dictionary at-body several-others
      rest-after several-births length-with_words w more is-more fields-more room-more pairs-are
      index-now values-more

  pub several-sound : IsSound after_number
  several-sound = rewritten-sound h a known sound after_number
      (splice known.object.fields 0 (w ∷ [])) with_words at-dictionary at-body several-others
      rest-after several-births length-with_words w more is-more fields-more room-more pairs-are
      index-now values-more

  module _ (names : List (List ℕ)) (s : Store) (shows : Shows h names s)
      (within : AreWithin h names s ws) where
    abbrev before : List Word
    before = (shown h a known sound names s shows).index

    behind : List Word
    behind = index ++ drop (length index) before

    holds-more : with_words ≡ words_of_pairs more
        ++ (replicate (2 * (capacity_at h a - length more)) zero_word ++ behind)
    unfolding behind
    holds-more =
        let m = length-more in
        let zeros = length-replicate (2 * (capacity_at h a - count_at h a)) zero_word in
        as-more (replicate (2 * (capacity_at h a - count_at h a)) zero_word ++ before)
        (holds-shown h a known sound names s shows)
        ∙ ap (λ xs. words_of_pairs more ++ xs)
        (ap (drop (length ws))
        (splice-behind (replicate (2 * (capacity_at h a - count_at h a)) zero_word) before
        (2 * capacity_at h a - 2 * count_at h a) 0 index (omega (arith, zeros))
        ∙ ap (λ xs. replicate (2 * (capacity_at h a - count_at h a)) zero_word ++ xs)
        (splice-zero before index))
        ∙ (drop-nulls (length ws) (2 * (capacity_at h a - count_at h a)) behind
        (omega (arith, room, even))
        ∙ ap (λ n. replicate n zero_word ++ behind) (omega (arith, m, room, even))))

    pub several-shows : Shows after_number names
        (with_dictionary s (birth_at h a)
        (record (dictionary_at s (birth_at h a)) {
          pairs = (dictionary_at s (birth_at h a)).pairs
              ++ map (pair_of (birth_at h) names) (pairs_of_words ws);
        }))
    several-shows =
        subst (λ ps. Shows after_number names
        (with_dictionary s (birth_at h a)
        (record (dictionary_at s (birth_at h a)) { pairs = ps })))
        (map-append (pair_of (birth_at h) names) (pairs_at h a) (pairs_of_words ws)
        ∙ ap (λ ps. ps ++ map (pair_of (birth_at h) names) (pairs_of_words ws))
        (sym (pairs-shown h a known sound names s shows)))
        (rewritten-shows h a known sound after_number (splice known.object.fields 0 (w ∷ []))
        with_words at-dictionary at-body several-others rest-after several-births
        length-with_words w more is-more fields-more room-more pairs-are index-now values-more
        names s shows behind holds-more
        (all_splice (IsWithin (birth_at h) names s) with_index (2 * count_at h a) ws
        (all_splice (IsWithin (birth_at h) names s) old (2 * capacity_at h a) index
        (body-within h a known sound names s shows)
        (index-within h names s (birth_at h) (capacity_at h a) more few room-more)) within)
        (all_splice (IsKnown h) known.object.fields 0 (w ∷ [])
        (known_fields h sound a known.object known.at (dictionary_is_no_text h a known))
        (w_held.known, tt))
        (all_splice (IsWithin (birth_at h) names s) known.object.fields 0 (w ∷ [])
        (shows.within a known.object known.at (dictionary_is_no_text h a known))
        (natural-within w (count_at h a + length ws / 2) is (birth_at h) names s, tt)))
