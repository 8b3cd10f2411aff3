-- A pair more at the end of a dictionary, and its position in the index.
use Rattle.std.proofs.Common.{◌≡◌, ℕ, zero, suc, ◌+◌, ◌*◌, ◌%◌, ◌≤◌, List, [], ◌∷◌, ◌++◌, length, map, take, drop, replicate, Option, Some, None, refl, sym, ap, ◌∙◌, arith}
use Rattle.std.specs.Prelude.{slice_set}
use Rattle.std.proofs.lemmas.List.{length-map}
use Rattle.ps_language.specs.Access.{splice}
use Rattle.ps_word.specs.declared.words.Word.{Word}
use Rattle.ps_word.specs.Format.{IsWord, packed, value_in}
use Rattle.ps_mem.specs.Shows.{IsNatural, words_of_pairs}
use Rattle.ps_mem.specs.Index.{pairs_of_words, hash_of, hashes_of, placed, placed_all, index_of, index_word, index_words}
use Rattle.ps_mem.proofs.Lists.{splice-suc, splice-zero}
use Rattle.ps_dict.proofs.Pairs.{pairs-of_words_of_pairs, take-front_all, length-words_of_pairs}
use Rattle.ps_dict.proofs.IndexPlaces.{is-index}

-- ---- the index with one position more

placed_all-more : (p : ℕ) (hashes : List ℕ) (hash : ℕ) (xs : List (Option ℕ))
    → placed_all p (hashes ++ hash ∷ []) xs ≡ placed (p + length hashes)
    (hash % length (placed_all p hashes xs)) (placed_all p hashes xs)
placed_all-more p [] hash xs =
    ap (λ n. placed n (hash % length xs) xs) (let e : p ≡ p + 0 = omega arith in e)
placed_all-more p (first ∷ hashes) hash xs =
    let rest : List (Option ℕ) = placed_all (suc p) hashes (placed p (first % length xs) xs) in
    placed_all-more (suc p) hashes hash (placed p (first % length xs) xs)
    ∙ ap (λ n. placed n (hash % length rest) rest)
    (let e : suc p + length hashes ≡ p + length (first ∷ hashes) = omega arith in e)

pub index_of-more : (capacity : ℕ) (hashes : List ℕ) (hash : ℕ) → length hashes ≤ capacity
    → index_of capacity (hashes ++ hash ∷ []) ≡ placed (length hashes) (hash % capacity)
    (index_of capacity hashes)
unfolding index_of
index_of-more capacity hashes hash room =
    placed_all-more 0 hashes hash (replicate capacity None)
    ∙ (ap (λ n. placed n (hash % length (index_of capacity hashes)) (index_of capacity hashes))
    (let e : 0 + length hashes ≡ length hashes = omega arith in e)
    ∙ ap (λ n. placed (length hashes) (hash % n) (index_of capacity hashes))
    (is-index capacity hashes room).count)

map-set : {A B : Type 0} (f : A → B) (xs : List A) (i : ℕ) (x : A)
    → map f (slice_set xs i x) ≡ slice_set (map f xs) i (f x)
map-set f [] i x = refl
map-set f (y ∷ xs) zero x = refl
map-set f (y ∷ xs) (suc i) x = ap (λ zs. f y ∷ zs) (map-set f xs i x)

hashes-append : (births : ℕ → ℕ) (pairs : List (Word × Word)) (pair : Word × Word)
    → hashes_of births (pairs ++ pair ∷ []) ≡ hashes_of births pairs ++ hash_of births pair.0 ∷ []
hashes-append births [] pair = refl
hashes-append births (q ∷ pairs) pair =
    ap (λ zs. hash_of births q.0 ∷ zs) (hashes-append births pairs pair)

-- a natural number has one word
pub natural-word : (w : Word) (n : ℕ) → IsNatural w n → IsWord w.0 → w ≡ index_word (Some n)
natural-word w n is word =
    let same : w.0 ≡ packed (value_in w.0) = sym word.exact in
    ap (λ (k : ℕ). record { 0 = k }) (same ∙ ap packed is)

-- the words of the index with a pair more are those before with the position in the place that was
-- free
pub index_words-more : (births : ℕ → ℕ) (capacity : ℕ) (pairs : List (Word × Word)) (k v : Word)
    (place : ℕ) (last : Word) → length pairs ≤ capacity → IsNatural last (length pairs)
    → IsWord last.0
    → placed (length pairs) (hash_of births k % capacity)
    (index_of capacity (hashes_of births pairs)) ≡ slice_set
    (index_of capacity (hashes_of births pairs)) place (Some (length pairs))
    → slice_set (index_words births capacity pairs) place last ≡ index_words births capacity
    (pairs ++ (k, v) ∷ [])
unfolding index_words
index_words-more births capacity pairs k v place last room is word there =
    let count : length (hashes_of births pairs) ≡ length pairs =
    length-map pairs (λ (pair : Word × Word). hash_of births pair.0) in
    ap (slice_set (map index_word (index_of capacity (hashes_of births pairs))) place)
    (natural-word last (length pairs) is word)
    ∙ (sym (map-set index_word (index_of capacity (hashes_of births pairs)) place
    (Some (length pairs)))
    ∙ ap (map index_word) (sym there
    ∙ (ap (λ n. placed n (hash_of births k % capacity) (index_of capacity (hashes_of births pairs)))
    (sym count)
    ∙ (sym (index_of-more capacity (hashes_of births pairs) (hash_of births k)
    (omega (arith, count, room)))
    ∙ ap (index_of capacity) (sym (hashes-append births pairs (k, v)))))))

-- ---- splices

pub splice-behind : {A : Type 0} (xs ys : List A) (m j : ℕ) (items : List A) → m ≡ length xs + j
    → splice (xs ++ ys) m items ≡ xs ++ splice ys j items
splice-behind [] ys m j items is = ap (λ n. splice ys n items) (omega (arith, is))
splice-behind (x ∷ xs) ys m j items is =
    ap (λ n. splice (x ∷ (xs ++ ys)) n items)
    (let e : m ≡ suc (length xs + j) = omega (arith, is) in e)
    ∙ (splice-suc x (xs ++ ys) (length xs + j) items
    ∙ ap (λ zs. x ∷ zs) (splice-behind xs ys (length xs + j) j items refl))

pub drop-splice_at : {A : Type 0} (n : ℕ) (xs : List A) (j : ℕ) (items : List A) → n ≤ length xs
    → drop n (splice xs (n + j) items) ≡ splice (drop n xs) j items
drop-splice_at zero xs j items h =
    ap (λ k. splice xs k items) (let e : 0 + j ≡ j = omega arith in e)
drop-splice_at (suc n) [] j items h = absurd (omega (arith, h))
drop-splice_at (suc n) (x ∷ xs) j items h =
    ap (λ k. drop (suc n) (splice (x ∷ xs) k items))
    (let e : suc n + j ≡ suc (n + j) = omega arith in e)
    ∙ (ap (drop (suc n)) (splice-suc x xs (n + j) items)
    ∙ drop-splice_at n xs j items (omega (arith, h)))

-- the words of the first pairs and what lies behind them
pub front-words : (n : ℕ) (ws : List Word) → 2 * n ≤ length ws
    → ws ≡ words_of_pairs (take n (pairs_of_words ws)) ++ drop (2 * n) ws
unfolding pairs_of_words
front-words zero ws h = refl
front-words (suc n) [] h = absurd (omega (arith, h))
front-words (suc n) (a ∷ []) h = absurd (omega (arith, h))
front-words (suc n) (a ∷ b ∷ ws) h =
    ap (λ zs. a ∷ b ∷ zs) (front-words n ws (omega (arith, h))
    ∙ ap (λ zs. words_of_pairs (take n (pairs_of_words ws)) ++ zs) (two n ws))
  where
    two : (n : ℕ) (ws : List Word) → drop (2 * n) ws ≡ drop (2 * suc n) (a ∷ b ∷ ws)
    two n ws = sym (ap (λ k. drop k (a ∷ b ∷ ws))
        (let e : 2 * suc n ≡ suc (suc (2 * n)) = omega arith in e))

append_words : (pairs : List (Word × Word)) (k v : Word) (rest : List Word) → words_of_pairs pairs
    ++ (k ∷ v ∷ rest) ≡ words_of_pairs (pairs ++ (k, v) ∷ []) ++ rest
append_words [] k v rest = refl
append_words (pair ∷ pairs) k v rest = ap (λ zs. pair.0 ∷ pair.1 ∷ zs) (append_words pairs k v rest)

-- the words of a body with a pair more behind the pairs that there are, and another word behind
-- both
module _ (pairs : List (Word × Word)) (rest : List Word) (k v : Word) (far : ℕ) (last : Word) where
  abbrev pub body_more : List Word
  body_more = splice (splice (words_of_pairs pairs ++ rest) (2 * length pairs) (k ∷ v ∷ []))
      (2 * length (pairs ++ (k, v) ∷ []) + far) (last ∷ [])

  pub body_more-is : body_more ≡ words_of_pairs (pairs ++ (k, v) ∷ [])
      ++ splice (drop 2 rest) far (last ∷ [])
  body_more-is =
      let ends : 2 * length pairs ≡ length (words_of_pairs pairs) + 0 =
      (let e = length-words_of_pairs pairs in omega (arith, e)) in
      let ends' : 2 * length (pairs ++ (k, v) ∷ []) + far ≡ length
      (words_of_pairs (pairs ++ (k, v) ∷ [])) + far =
      (let e = length-words_of_pairs (pairs ++ (k, v) ∷ []) in omega (arith, e)) in
      let inner : splice (words_of_pairs pairs ++ rest) (2 * length pairs) (k ∷ v ∷ []) ≡
      words_of_pairs (pairs ++ (k, v) ∷ []) ++ drop 2 rest =
      splice-behind (words_of_pairs pairs) rest (2 * length pairs) 0 (k ∷ v ∷ []) ends
      ∙ (ap (λ zs. words_of_pairs pairs ++ zs) (splice-zero rest (k ∷ v ∷ []))
      ∙ append_words pairs k v (drop 2 rest)) in
      ap (λ ws. splice ws (2 * length (pairs ++ (k, v) ∷ []) + far) (last ∷ [])) inner
      ∙ splice-behind (words_of_pairs (pairs ++ (k, v) ∷ [])) (drop 2 rest)
      (2 * length (pairs ++ (k, v) ∷ []) + far) far (last ∷ []) ends'

  pub pairs-body_more : take (length (pairs ++ (k, v) ∷ [])) (pairs_of_words body_more) ≡ pairs
      ++ (k, v) ∷ []
  pairs-body_more =
      ap (λ ws. take (length (pairs ++ (k, v) ∷ [])) (pairs_of_words ws)) body_more-is
      ∙ (ap (take (length (pairs ++ (k, v) ∷ [])))
      (pairs-of_words_of_pairs (pairs ++ (k, v) ∷ []) (splice (drop 2 rest) far (last ∷ [])))
      ∙ take-front_all (pairs ++ (k, v) ∷ [])
      (pairs_of_words (splice (drop 2 rest) far (last ∷ []))))
