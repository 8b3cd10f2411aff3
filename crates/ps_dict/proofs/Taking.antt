-- A dictionary with a pair less: the stores of a removal.
use Rattle.std.proofs.Common.{◌≡◌, ◌≢◌, ℕ, zero, suc, ◌+◌, ◌-◌, ◌*◌, ◌<◌, ◌≤◌, List, [], ◌∷◌, ◌++◌, length, map, take, drop, replicate, Some, refl, sym, ap, ◌∙◌, arith, subst, length-append, length-drop}
use Rattle.std.specs.Prelude.{slice_range}
use Rattle.std.specs.List.{AllByRecursion}
use Rattle.std.proofs.lemmas.List.{length-take-le, length-replicate}
use Rattle.ps_language.specs.declared.kinds.Kind.TheVariants.{Dictionary as DictionaryKind, Body as BodyKind}
use Rattle.ps_language.specs.Value.{Value, Store}
use Rattle.ps_language.specs.Access.{splice, dictionary_at, with_dictionary}
use Rattle.ps_language.specs.Dictionaries.{without}
use Rattle.ps_word.specs.declared.words.Word.{Word}
use Rattle.ps_mem.specs.Heap.{Heap, object_at, birth_at, fields_of, fields_at, stored, zero_word}
use Rattle.ps_mem.specs.Index.{pairs_of_words, index_words}
use Rattle.ps_mem.specs.Keeps.{Keeps}
use Rattle.ps_mem.specs.References.{StandsAs, IsKnown, AreKnown}
use Rattle.ps_mem.specs.Shows.{IsNatural, IsValue, AreValues, IsSound, IsWithin, words_of_pairs, pair_of, Shows}
use Rattle.ps_mem.proofs.Lists.{all_splice, all_take, all_drop, length-splice}
use Rattle.ps_mem.proofs.HeapLemmas.{object_at-stored_same, object_at-stored_other, birth_at-stored, rest_of, rest-stored}
use Rattle.ps_mem.proofs.KeepsLemmas.{known_values}
use Rattle.ps_mem.proofs.ShowsLemmas.{known_fields}
use Rattle.ps_mem.proofs.ZeroLemmas.{AreValues-zeros, AreWithin-zeros}
use Rattle.ps_dict.specs.Places.{count_at, capacity_at, body_at, pairs_at, first_place}
use Rattle.ps_dict.specs.Removals.{without_place, moved_down, with_pairs_moved}
use Rattle.ps_dict.proofs.Pairs.{pairs-of_words_of_pairs, take-front_all, length-words_of_pairs}
use Rattle.ps_dict.proofs.Shapes.{shape, fields-dictionary, dictionary_is_no_text, body-stands, body-room, body-values, body-within, count-fits, length-pairs, shown, pairs-shown, holds-shown}
use Rattle.ps_dict.proofs.Changing.{apart-body}
use Rattle.ps_dict.proofs.Naturals.{count_fields, natural-within}
use Rattle.ps_dict.proofs.WordRuns.{splice-last}
use Rattle.ps_dict.proofs.Probing.{few-places}
use Rattle.ps_dict.proofs.Appending.{splice-behind, front-words}
use Rattle.ps_dict.proofs.Indexing.{index-values, index-within, length-index_words, index-behind, drop-end}
use Rattle.ps_dict.proofs.Rewriting.{rewritten-keeps, rewritten-sound, rewritten-shows}
use Rattle.ps_dict.proofs.Gathering.{length-rest}
use Rattle.ps_dict.proofs.Removing.{length-moved_down, take-moved_down, splice-down, split-last, without-present}

-- ---- lists

map-without : {A B : Type 0} (f : A → B) (xs : List A) (i : ℕ)
    → map f (without_place xs i) ≡ without_place (map f xs) i
unfolding without_place
map-without f [] i = refl
map-without f (x ∷ xs) zero = refl
map-without f (x ∷ xs) (suc i) = ap (λ ys. f x ∷ ys) (map-without f xs i)

pair-behind : (pairs : List (Word × Word)) (k v : Word) (rest : List Word)
    → words_of_pairs (pairs ++ (k, v) ∷ []) ++ rest ≡ words_of_pairs pairs ++ (k ∷ v ∷ rest)
pair-behind [] k v rest = refl
pair-behind (pair ∷ pairs) k v rest = ap (λ zs. pair.0 ∷ pair.1 ∷ zs) (pair-behind pairs k v rest)

abbrev two_nulls : List Word
two_nulls = zero_word ∷ zero_word ∷ []

-- the words of pairs that moved down, with nulls over the last
nulled-is : (pairs : List (Word × Word)) (i n : ℕ) (rest : List Word) → i < length pairs
    → n + 1 ≡ length pairs
    → splice (splice (words_of_pairs pairs ++ rest) (2 * i)
    (take (2 * (n - i)) (drop (2 * i + 2) (words_of_pairs pairs ++ rest)))) (2 * n) two_nulls ≡
    words_of_pairs (without_place pairs i) ++ (zero_word ∷ zero_word ∷ rest)
nulled-is pairs i n rest below is =
    let all : length (moved_down pairs i) ≡ length pairs = length-moved_down pairs i in
    let (last, split) = split-last n (moved_down pairs i) (omega (arith, all, is)) in
    let front : take n (moved_down pairs i) ≡ without_place pairs i =
    take-moved_down pairs i n below is in
    let long : length (take n (moved_down pairs i)) ≡ n =
    length-take-le n (moved_down pairs i) (omega (arith, all, is)) in
    ap (λ ws. splice ws (2 * n) two_nulls)
    (splice-down pairs i (n - i) rest (omega (arith, below, is)))
    ∙ (ap (λ ps. splice (words_of_pairs ps ++ rest) (2 * n) two_nulls) split
    ∙ (ap (λ k. splice (words_of_pairs (take n (moved_down pairs i) ++ last ∷ []) ++ rest) (2 * k)
    two_nulls) (sym long)
    ∙ (splice-last (take n (moved_down pairs i)) last zero_word zero_word rest
    ∙ (pair-behind (take n (moved_down pairs i)) zero_word zero_word rest
    ∙ ap (λ ps. words_of_pairs ps ++ (zero_word ∷ zero_word ∷ rest)) front))))

-- ---- the stores

module _ (h : Heap) (a : ℕ) (known : StandsAs h DictionaryKind a 4) (sound : IsSound h) (i : ℕ)
    (below : i < count_at h a) (w : Word) (natural : IsNatural w (count_at h a - 1))
    (held : IsValue h w) where
  abbrev b : ℕ
  b = body_at h a

  abbrev ws : List Word
  ws = fields_at h (body_at h a)

  abbrev behind : List Word
  behind = slice_range (fields_at h (body_at h a)) (2 * i + 2) (2 * count_at h a)

  abbrev pub left : List (Word × Word)
  left = without_place (pairs_at h a) i

  abbrev pub index : List Word
  index = index_words (birth_at h) (capacity_at h a) (without_place (pairs_at h a) i)

  abbrev pub moved : Heap
  moved = with_pairs_moved h a i

  abbrev pub nulled : Heap
  nulled = stored moved (body_at h a) (2 * (count_at h a - 1)) two_nulls

  abbrev pub counted : Heap
  counted = stored nulled a 0 (w ∷ [])

  abbrev pub after : Heap
  after = stored counted (body_at h a) (2 * capacity_at h a) index

  abbrev moved_words : List Word
  moved_words = splice ws (2 * i) behind

  abbrev nulled_words : List Word
  nulled_words = splice moved_words (2 * (count_at h a - 1)) two_nulls

  abbrev words : List Word
  words = splice nulled_words (2 * capacity_at h a) index

  length-left : length left + 1 ≡ count_at h a
  length-left = length-rest h a known sound i below

  pub left-fits : length left ≤ capacity_at h a
  left-fits = let n = length-left in let fits = count-fits h a known sound in omega (arith, n, fits)

  pub length-index : length index ≡ capacity_at h a
  length-index = length-index_words (birth_at h) (capacity_at h a) left left-fits

  behind-is : behind ≡ take (2 * (count_at h a - 1 - i)) (drop (2 * i + 2) ws)
  behind-is = let e : 2 * count_at h a - (2 * i + 2) ≡ 2 * (count_at h a - 1 - i) =
      omega (arith, below) in ap (λ n. take n (drop (2 * i + 2) ws)) e

  length-behind : length behind ≡ 2 * (count_at h a - 1 - i)
  length-behind =
      let room = body-room h a known sound in
      let fits = count-fits h a known sound in
      let dropped : length (drop (2 * i + 2) ws) ≡ length ws - (2 * i + 2) =
      length-drop (2 * i + 2) ws in
      ap length behind-is ∙ length-take-le (2 * (count_at h a - 1 - i)) (drop (2 * i + 2) ws)
      (omega (arith, below, room, fits, dropped))

  moved-fits : 2 * i + length behind ≤ length ws
  moved-fits = let n = length-behind in let room = body-room h a known sound in let fits =
      count-fits h a known sound in omega (arith, n, room, fits, below)

  length-moved : length moved_words ≡ length ws
  length-moved = length-splice ws (2 * i) behind moved-fits

  nulled-fits : 2 * (count_at h a - 1) + 2 ≤ length moved_words
  nulled-fits = let n = length-moved in let room = body-room h a known sound in let fits =
      count-fits h a known sound in omega (arith, n, room, fits, below)

  length-nulled : length nulled_words ≡ length ws
  length-nulled = length-splice moved_words (2 * (count_at h a - 1)) two_nulls nulled-fits
      ∙ length-moved

  index-ends : 2 * capacity_at h a + length index ≡ length nulled_words
  index-ends = let n = length-nulled in let room = body-room h a known sound in let m =
      length-index in omega (arith, n, room, m)

  index-fits : 2 * capacity_at h a + length index ≤ length nulled_words
  index-fits = let e = index-ends in omega (arith, e)

  length-words : length words ≡ length ws
  length-words = length-splice nulled_words (2 * capacity_at h a) index index-fits ∙ length-nulled

  -- ---- what stands after each

  apart : a ≢ body_at h a
  apart = apart-body h a known sound

  body-moved : object_at moved b ≡ Some
      (record { kind = BodyKind; birth = birth_at h a; fields = moved_words })
  body-moved = object_at-stored_same h b (2 * i) behind
      (record { kind = BodyKind; birth = birth_at h a; fields = ws }) (body-stands h a known sound)

  body-nulled : object_at nulled b ≡ Some
      (record { kind = BodyKind; birth = birth_at h a; fields = nulled_words })
  body-nulled = object_at-stored_same moved b (2 * (count_at h a - 1)) two_nulls
      (record { kind = BodyKind; birth = birth_at h a; fields = moved_words }) body-moved

  body-counted : object_at counted b ≡ Some
      (record { kind = BodyKind; birth = birth_at h a; fields = nulled_words })
  body-counted = object_at-stored_other nulled a 0 (w ∷ []) b apart ∙ body-nulled

  body-after : object_at after b ≡ Some
      (record { kind = BodyKind; birth = birth_at h a; fields = words })
  body-after = object_at-stored_same counted b (2 * capacity_at h a) index
      (record { kind = BodyKind; birth = birth_at h a; fields = nulled_words }) body-counted

  dictionary-nulled : object_at nulled a ≡ Some known.object
  dictionary-nulled =
      object_at-stored_other moved b (2 * (count_at h a - 1)) two_nulls a (λ e. apart (sym e))
      ∙ (object_at-stored_other h b (2 * i) behind a (λ e. apart (sym e)) ∙ known.at)

  dictionary-after : object_at after a ≡ Some
      (record known.object { fields = splice known.object.fields 0 (w ∷ []) })
  dictionary-after =
      object_at-stored_other counted b (2 * capacity_at h a) index a (λ e. apart (sym e))
      ∙ object_at-stored_same nulled a 0 (w ∷ []) known.object dictionary-nulled

  others-after : (c : ℕ) → a ≢ c → body_at h a ≢ c → object_at after c ≡ object_at h c
  others-after c ne ne' =
      object_at-stored_other counted b (2 * capacity_at h a) index c ne'
      ∙ (object_at-stored_other nulled a 0 (w ∷ []) c ne
      ∙ (object_at-stored_other moved b (2 * (count_at h a - 1)) two_nulls c ne'
      ∙ object_at-stored_other h b (2 * i) behind c ne'))

  rest-after : rest_of after ≡ rest_of h
  rest-after =
      rest-stored counted b (2 * capacity_at h a) index
      ∙ (rest-stored nulled a 0 (w ∷ [])
      ∙ (rest-stored moved b (2 * (count_at h a - 1)) two_nulls
      ∙ rest-stored h b (2 * i) behind))

  pub births-after : birth_at after ≡ birth_at h
  births-after =
      birth_at-stored counted b (2 * capacity_at h a) index
      ∙ (birth_at-stored nulled a 0 (w ∷ [])
      ∙ (birth_at-stored moved b (2 * (count_at h a - 1)) two_nulls
      ∙ birth_at-stored h b (2 * i) behind))

  -- ---- what the stores ask for

  pub nulled-place : 2 * (count_at h a - 1) + 2 ≤ length (fields_at moved b)
  unfolding fields_at
  nulled-place = let e = ap (λ o. length (fields_of o)) body-moved in let f = nulled-fits in
      omega (arith, e, f)

  pub counted-place : 1 ≤ length (fields_at nulled a)
  unfolding fields_at
  counted-place =
      let e = ap (λ o. length (fields_of o)) dictionary-nulled in
      let f = ap length (fields-dictionary h a known) in
      let four = ap length (shape h a known sound).are in
      omega (arith, e, f, four)

  pub index-place : 2 * capacity_at h a + length index ≤ length (fields_at counted b)
  unfolding fields_at
  index-place = let e = ap (λ o. length (fields_of o)) body-counted in let f = index-fits in
      omega (arith, e, f)

  pub index-some : 1 ≤ length index
  index-some = let n = length-index in let fits = count-fits h a known sound in
      omega (arith, n, fits, below)

  pub index-known : (g : Heap) → AreKnown g index
  index-known g = known_values g index
      (index-values g (birth_at h) (capacity_at h a) left (few-places h a known sound) left-fits)

  -- ---- the words

  is-left : IsNatural w (length left)
  is-left = let n = length-left in
      subst (IsNatural w) (let e : count_at h a - 1 ≡ length left = omega (arith, n) in e) natural

  fields-left : splice known.object.fields 0 (w ∷ []) ≡ w ∷ (shape h a known sound).capacity_word
      ∷ (shape h a known sound).access_word ∷ (shape h a known sound).body_word ∷ []
  fields-left = ap (λ xs. splice xs 0 (w ∷ [])) (sym (fields-dictionary h a known))
      ∙ count_fields h a known sound w (count_at h a - 1) natural

  as-nulled : (rest : List Word) → ws ≡ words_of_pairs (pairs_at h a) ++ rest
      → nulled_words ≡ words_of_pairs left ++ (zero_word ∷ zero_word ∷ rest)
  as-nulled rest e =
      let n = length-pairs h a known sound in
      ap (λ items. splice (splice ws (2 * i) items) (2 * (count_at h a - 1)) two_nulls) behind-is
      ∙ (ap (λ xs. splice (splice xs (2 * i)
      (take (2 * (count_at h a - 1 - i)) (drop (2 * i + 2) xs))) (2 * (count_at h a - 1))
      two_nulls) e
      ∙ nulled-is (pairs_at h a) i (count_at h a - 1) rest (omega (arith, n, below))
      (omega (arith, n, below)))

  front : ws ≡ words_of_pairs (pairs_at h a) ++ drop (2 * count_at h a) ws
  unfolding pairs_at
  front = front-words (count_at h a) ws
      (let e = body-room h a known sound in let f = count-fits h a known sound in
      omega (arith, e, f))

  pairs-left : take (length left) (pairs_of_words words) ≡ left
  pairs-left =
      let rest : List Word = zero_word ∷ zero_word ∷ drop (2 * count_at h a) ws in
      let far : ℕ = 2 * capacity_at h a - 2 * length left in
      let n = length-words_of_pairs left in
      let fits = left-fits in
      let split : words ≡ words_of_pairs left ++ splice rest far index =
      ap (λ xs. splice xs (2 * capacity_at h a) index)
      (as-nulled (drop (2 * count_at h a) ws) front)
      ∙ splice-behind (words_of_pairs left) rest (2 * capacity_at h a) far index
      (omega (arith, n, fits)) in
      ap (λ xs. take (length left) (pairs_of_words xs)) split
      ∙ (ap (take (length left)) (pairs-of_words_of_pairs left (splice rest far index))
      ∙ take-front_all left (pairs_of_words (splice rest far index)))

  index-left : drop (2 * capacity_at h a) words ≡ index
  index-left = drop-end (2 * capacity_at h a) nulled_words index index-ends

  values-left : AreValues h words
  values-left =
      all_splice (IsValue h) nulled_words (2 * capacity_at h a) index
      (all_splice (IsValue h) moved_words (2 * (count_at h a - 1)) two_nulls
      (all_splice (IsValue h) ws (2 * i) behind (body-values h a known sound)
      (subst (AreValues h) (sym behind-is)
      (all_take (IsValue h) (2 * (count_at h a - 1 - i)) (drop (2 * i + 2) ws)
      (all_drop (IsValue h) (2 * i + 2) ws (body-values h a known sound)))))
      (AreValues-zeros h 2))
      (index-values h (birth_at h) (capacity_at h a) left (few-places h a known sound) left-fits)

  -- ---- what holds then

  pub taken-keeps : Keeps h after
  taken-keeps = rewritten-keeps h a known sound after (splice known.object.fields 0 (w ∷ [])) words
      dictionary-after body-after others-after rest-after births-after length-words w left is-left
      fields-left left-fits pairs-left index-left values-left

  pub taken-sound : IsSound after
  taken-sound = rewritten-sound h a known sound after (splice known.object.fields 0 (w ∷ [])) words
      dictionary-after body-after others-after rest-after births-after length-words w left is-left
      fields-left left-fits pairs-left index-left values-left

  module _ (names : List (List ℕ)) (s : Store) (shows : Shows h names s) where
    abbrev index_before : List Word
    index_before = (shown h a known sound names s shows).index

    gap : ℕ
    gap = 2 * (capacity_at h a - count_at h a)

    length-before : length index_before ≡ capacity_at h a
    unfolding gap
    length-before =
        let whole = ap length (holds-shown h a known sound names s shows) in
        let pairs_long = length-words_of_pairs (pairs_at h a) in
        let count = length-pairs h a known sound in
        let nulls = length-replicate gap zero_word in
        let first = length-append (words_of_pairs (pairs_at h a))
        (replicate gap zero_word ++ index_before) in
        let second = length-append (replicate gap zero_word) index_before in
        let room = body-room h a known sound in
        let fits = count-fits h a known sound in
        omega (arith, whole, pairs_long, count, nulls, first, second, room, fits)

    holds-left : words ≡ words_of_pairs left
        ++ (replicate (2 * (capacity_at h a - length left)) zero_word ++ index)
    unfolding gap
    holds-left =
        let n = length-left in
        let fits = count-fits h a known sound in
        let long = length-words_of_pairs left in
        let before = length-before in
        let now = length-index in
        let more : zero_word ∷ zero_word
        ∷ (replicate gap zero_word ++ index_before) ≡ replicate
        (2 * (capacity_at h a - length left)) zero_word ++ index_before =
        sym (ap (λ m. replicate m zero_word ++ index_before)
        (let e : 2 * (capacity_at h a - length left) ≡ suc (suc gap) = omega (arith, n, fits) in
        e)) in
        ap (λ xs. splice xs (2 * capacity_at h a) index)
        (as-nulled (replicate gap zero_word ++ index_before)
        (holds-shown h a known sound names s shows) ∙ ap (λ xs. words_of_pairs left ++ xs) more)
        ∙ (ap (λ m. splice (words_of_pairs left
        ++ (replicate (2 * (capacity_at h a - length left)) zero_word ++ index_before)) m index)
        (let e : 2 * capacity_at h a ≡ length (words_of_pairs left) + 2 *
        (capacity_at h a - length left) = omega (arith, n, fits, long) in e)
        ∙ index-behind (words_of_pairs left) (2 * (capacity_at h a - length left)) index_before
        index (now ∙ sym before))

    pub taken-shows : (key : Value)
        → first_place (dictionary_at s (birth_at h a)).pairs key ≡ Some i
        → Shows after names (with_dictionary s (birth_at h a)
        (record (dictionary_at s (birth_at h a))
        { pairs = without (dictionary_at s (birth_at h a)).pairs key }))
    taken-shows key at =
        subst (λ ps. Shows after names
        (with_dictionary s (birth_at h a)
        (record (dictionary_at s (birth_at h a)) { pairs = ps })))
        (map-without (pair_of (birth_at h) names) (pairs_at h a) i
        ∙ (ap (λ ps. without_place ps i) (sym (pairs-shown h a known sound names s shows))
        ∙ sym (without-present (dictionary_at s (birth_at h a)).pairs key i at)))
        (rewritten-shows h a known sound after (splice known.object.fields 0 (w ∷ [])) words
        dictionary-after body-after others-after rest-after births-after length-words w left
        is-left fields-left left-fits pairs-left index-left values-left
        names s shows index holds-left
        (all_splice (IsWithin (birth_at h) names s) nulled_words (2 * capacity_at h a) index
        (all_splice (IsWithin (birth_at h) names s) moved_words (2 * (count_at h a - 1)) two_nulls
        (all_splice (IsWithin (birth_at h) names s) ws (2 * i) behind
        (body-within h a known sound names s shows)
        (subst (λ xs. AllByRecursion (IsWithin (birth_at h) names s) xs) (sym behind-is)
        (all_take (IsWithin (birth_at h) names s) (2 * (count_at h a - 1 - i))
        (drop (2 * i + 2) ws) (all_drop (IsWithin (birth_at h) names s) (2 * i + 2) ws
        (body-within h a known sound names s shows)))))
        (AreWithin-zeros h names s 2))
        (index-within h names s (birth_at h) (capacity_at h a) left (few-places h a known sound)
        left-fits))
        (all_splice (IsKnown h) known.object.fields 0 (w ∷ [])
        (known_fields h sound a known.object known.at (dictionary_is_no_text h a known))
        (held.known, tt))
        (all_splice (IsWithin (birth_at h) names s) known.object.fields 0 (w ∷ [])
        (shows.within a known.object known.at (dictionary_is_no_text h a known))
        (natural-within w (count_at h a - 1) natural (birth_at h) names s, tt)))
