-- The words of a whole body: pairs, nulls, and the index as it is filled.
use Rattle.std.proofs.Common.{◌≡◌, ℕ, ◌+◌, ◌-◌, ◌*◌, ◌/◌, ◌<◌, ◌≤◌, List, [], ◌∷◌, ◌++◌, length, take, drop, replicate, get_or, refl, sym, ap, ◌∙◌, arith, append_assoc, length-append, length-drop}
use Rattle.std.specs.Prelude.{zero, suc, slice_set}
use Rattle.std.proofs.lemmas.List.{length-replicate, take_all}
use Rattle.ps_word.specs.declared.words.Word.{Word}
use Rattle.ps_language.specs.Value.{Store}
use Rattle.ps_mem.specs.Heap.{Heap, birth_at, zero_word}
use Rattle.ps_mem.specs.Index.{pairs_of_words, index_words}
use Rattle.ps_mem.specs.Shows.{IsValue, AreValues, IsWithin, AreWithin, words_of_pairs}
use Rattle.ps_mem.proofs.Lists.{all_append}
use Rattle.ps_mem.proofs.ZeroLemmas.{AreValues-zeros, AreWithin-zeros}
use Rattle.ps_dict.specs.Bodies.{whole_body}
use Rattle.ps_dict.proofs.Fresh.{length-in_twos}
use Rattle.ps_dict.proofs.Indexing.{set-right, length-index_words, index-values, index-within}
use Rattle.ps_dict.proofs.Pairs.{drop-front, length-words_of_pairs, pairs-of_words_of_pairs, take-front_all}
use Rattle.ps_dict.proofs.Making.{more-zeros, no-index}
use Rattle.ps_dict.proofs.Several.{words-of_twos}

pub front-get : {A : Type 0} (xs ys : List A) (i : ℕ) (d : A) → i < length xs
    → get_or (xs ++ ys) i d ≡ get_or xs i d
front-get [] ys i d h = absurd (omega arith)
front-get (x ∷ xs) ys zero d h = refl
front-get (x ∷ xs) ys (suc i) d h = front-get xs ys i d (omega (arith, h))

module _ (births : ℕ → ℕ) (capacity : ℕ) (ws : List Word)
    (even : 2 * (length ws / 2) ≡ length ws) (room : length ws / 2 ≤ capacity) where
  abbrev nulls : List Word
  nulls = replicate (2 * (capacity - length ws / 2)) zero_word

  -- with this index behind them
  abbrev with_index : List Word → List Word
  with_index index = ws ++ (nulls ++ index)

  front-long : length (ws ++ nulls) ≡ 2 * capacity
  front-long =
      let zeros : length nulls ≡ 2 * (capacity - length ws / 2) =
      length-replicate (2 * (capacity - length ws / 2)) zero_word in
      let all = length-append ws nulls in
      omega (arith, zeros, all, even, room)

  pub body-long : (index : List Word) → length (with_index index) ≡ 2 * capacity + length index
  body-long index =
      let front = front-long in
      let all = length-append (ws ++ nulls) index in
      ap length (sym (append_assoc ws nulls index)) ∙ (omega (arith, front, all))

  body-index : (index : List Word) → drop (2 * capacity) (with_index index) ≡ index
  body-index index =
      ap (drop (2 * capacity)) (sym (append_assoc ws nulls index))
      ∙ (ap (λ n. drop n ((ws ++ nulls) ++ index)) (sym front-long)
      ∙ drop-front (ws ++ nulls) index)

  -- the index, as a slice from its first place on
  pub body-slice : (index xs : List Word) → xs ≡ with_index index
      → take (length xs - 2 * capacity) (drop (2 * capacity) xs) ≡ index
  body-slice index xs is =
      let left = length-drop (2 * capacity) xs in
      take_all (length xs - 2 * capacity) (drop (2 * capacity) xs) (omega (arith, left))
      ∙ (ap (drop (2 * capacity)) is ∙ body-index index)

  pub body-set : (index : List Word) (place : ℕ) (w : Word)
      → slice_set (with_index index) (2 * capacity + place) w ≡ with_index
      (slice_set index place w)
  body-set index place w =
      ap (λ xs. slice_set xs (2 * capacity + place) w) (sym (append_assoc ws nulls index))
      ∙ (ap (λ n. slice_set ((ws ++ nulls) ++ index) (n + place) w) (sym front-long)
      ∙ (set-right (ws ++ nulls) index place w
      ∙ append_assoc ws nulls (slice_set index place w)))

  pub body-none : (m : ℕ) → m ≡ 3 * capacity - 2 * (length ws / 2)
      → ws ++ replicate m zero_word ≡ with_index (index_words births capacity [])
  body-none m is =
      ap (λ xs. ws ++ xs) (ap (λ n. replicate n zero_word)
      (let e : m ≡ 2 * (capacity - length ws / 2) + capacity = omega (arith, is, room) in e)
      ∙ (more-zeros (2 * (capacity - length ws / 2)) capacity
      ∙ ap (λ xs. nulls ++ xs) (no-index births capacity)))

  pub body-whole : (p : ℕ) → length ws / 2 ≤ p
      → with_index (index_words births capacity (take p (pairs_of_words ws))) ≡ whole_body births
      capacity (pairs_of_words ws)
  body-whole p past =
      let n = length-in_twos ws in
      ap (λ ps. with_index (index_words births capacity ps))
      (take_all p (pairs_of_words ws) (omega (arith, n, past)))
      ∙ (ap (λ xs. xs ++ (nulls ++ index_words births capacity (pairs_of_words ws)))
      (sym (words-of_twos ws even))
      ∙ ap (λ m. words_of_pairs (pairs_of_words ws) ++ (replicate (2 * (capacity - m)) zero_word
      ++ index_words births capacity (pairs_of_words ws))) (sym n))

-- ---- of pairs

module _ (births : ℕ → ℕ) (capacity : ℕ) (pairs : List (Word × Word))
    (room : length pairs ≤ capacity) where
  abbrev behind : List Word
  behind = replicate (2 * (capacity - length pairs)) zero_word

  abbrev the_index : List Word
  the_index = index_words births capacity pairs

  whole-front : length (words_of_pairs pairs ++ behind) ≡ 2 * capacity
  whole-front =
      let zeros : length behind ≡ 2 * (capacity - length pairs) =
      length-replicate (2 * (capacity - length pairs)) zero_word in
      let all = length-append (words_of_pairs pairs) behind in
      let words = length-words_of_pairs pairs in
      omega (arith, zeros, all, words, room)

  pub whole-long : length (whole_body births capacity pairs) ≡ 3 * capacity
  whole-long =
      let front = whole-front in
      let all = length-append (words_of_pairs pairs ++ behind) the_index in
      let index = length-index_words births capacity pairs room in
      ap length (sym (append_assoc (words_of_pairs pairs) behind the_index))
      ∙ (omega (arith, front, all, index))

  pub whole-pairs : take (length pairs) (pairs_of_words (whole_body births capacity pairs)) ≡ pairs
  whole-pairs =
      ap (take (length pairs)) (pairs-of_words_of_pairs pairs (behind ++ the_index))
      ∙ take-front_all pairs (pairs_of_words (behind ++ the_index))

  pub whole-index : drop (2 * capacity) (whole_body births capacity pairs) ≡ index_words births
      capacity pairs
  whole-index =
      ap (drop (2 * capacity)) (sym (append_assoc (words_of_pairs pairs) behind the_index))
      ∙ (ap (λ n. drop n ((words_of_pairs pairs ++ behind) ++ the_index)) (sym whole-front)
      ∙ drop-front (words_of_pairs pairs ++ behind) the_index)

  module _ (few : capacity ≤ 21845) (h : Heap) where
    pub whole-values : AreValues h (words_of_pairs pairs)
        → AreValues h (whole_body births capacity pairs)
    whole-values held =
        all_append (IsValue h) (words_of_pairs pairs) (behind ++ the_index) held
        (all_append (IsValue h) behind the_index
        (AreValues-zeros h (2 * (capacity - length pairs)))
        (index-values h births capacity pairs few room))

    pub whole-within : (names : List (List ℕ)) (s : Store)
        → AreWithin h names s (words_of_pairs pairs)
        → AreWithin h names s (whole_body births capacity pairs)
    whole-within names s within =
        all_append (IsWithin (birth_at h) names s) (words_of_pairs pairs) (behind ++ the_index)
        within
        (all_append (IsWithin (birth_at h) names s) behind the_index
        (AreWithin-zeros h names s (2 * (capacity - length pairs)))
        (index-within h names s births capacity pairs few room))
