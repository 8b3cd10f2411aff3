-- How many words stand: the sizes of the objects that stand one after another are the words that
-- they stand in.
use Rattle.std.proofs.Common.{◌≡◌, ℕ, zero, suc, ◌+◌, ◌-◌, ◌^◌, ◌<◌, ◌≤◌, List, [], ◌∷◌, length, take, drop, Option, None, ap, arith, inl, inr, ◌∙◌, length-drop}
use Rattle.std.proofs.lemmas.Bool.{cases_lt}
use Rattle.std.proofs.lemmas.List.{length-map, length-take-le}
use Rattle.ps_word.specs.Headers.{fields_in}
use Rattle.ps_mem.specs.Heap.{Space, Standing, object_at, size_of, words_below, standing_words}
use Rattle.ps_mem.specs.Objects.{standing_of, object_in, wanting, heap_in}
use Rattle.ps_mem.specs.Stands.{IsAddressed}
use Rattle.ps_mem.proofs.Walks.{object_in_past, wanting_none}

-- the first object, and then those behind
words_below-next : (at : ℕ → Option Standing) (n : ℕ)
    → words_below at (suc n) ≡ size_of (at 0) + words_below (λ i. at (suc i)) n
unfolding words_below
words_below-next at zero = omega arith
words_below-next at (suc n) = let e = words_below-next at n in omega (arith, e)

one_more : (at : ℕ → Option Standing) (m : ℕ) → at m ≡ None
    → words_below at (suc m) ≡ words_below at m
unfolding words_below
one_more at m here = let s : size_of (at m) ≡ 0 = ap size_of here in omega (arith, s)

-- where nothing stands from a place on
words_below-past : (at : ℕ → Option Standing) (n k : ℕ) → ((i : ℕ) → n ≤ i → at i ≡ None)
    → words_below at (n + k) ≡ words_below at n
words_below-past at n zero none = ap (words_below at) (let e : n + 0 ≡ n = omega arith in e)
words_below-past at n (suc k) none =
    let e : n + suc k ≡ suc (n + k) = omega arith in
    let rest = words_below-past at n k none in
    let here = none (n + k) (omega arith) in
    ap (words_below at) e ∙ one_more at (n + k) here ∙ rest

length-standing : (w : ℕ) (ws : List ℕ) → suc (fields_in w) ≤ length ws
    → length (standing_of w ws).fields ≡ fields_in w
unfolding standing_of
length-standing w ws h = rw length-map
    (length-take-le (fields_in w) (drop 1 ws) (rw length-drop (omega (arith, h))))

walk-counts : (ws : List ℕ) (skip : ℕ) → wanting ws skip ≡ 0
    → words_below (object_in ws skip) (length ws) + skip ≡ length ws
unfolding words_below object_in wanting
walk-counts [] skip whole = omega (arith, whole)
walk-counts (w ∷ ws) zero whole =
    let rest = walk-counts ws (suc (fields_in w)) whole in
    let first = words_below-next (object_in (w ∷ ws) 0) (length ws) in
    let many = length-standing w ws (wanting_none ws (suc (fields_in w)) whole) in
    omega (arith, rest, first, many)
walk-counts (w ∷ ws) (suc skip) whole =
    let rest = walk-counts ws skip whole in
    let first = words_below-next (object_in (w ∷ ws) (suc skip)) (length ws) in
    omega (arith, rest, first)

counted_to : (ws : List ℕ) → wanting ws 0 ≡ 0 → (n k : ℕ) → n ≡ length ws + k
    → words_below (object_in ws 0) n ≡ length ws
counted_to ws whole n k is =
    let all = walk-counts ws 0 whole in
    ap (words_below (object_in ws 0)) is
    ∙ (words_below-past (object_in ws 0) (length ws) k (λ i past. object_in_past ws 0 i past)
    ∙ (let e = all in omega (arith, e)))

pub counted : (words : List ℕ) (used next : ℕ) (space : Space) → used ≤ length words
    → length words < 2 ^ 24 → wanting (take used words) 0 ≡ 0
    → standing_words (heap_in words used next space) ≡ used
unfolding standing_words heap_in
counted words used next space within limited whole =
    let count : length (take used words) ≡ used = length-take-le used words within in
    counted_to (take used words) whole (2 ^ 24) (2 ^ 24 - used)
    (omega (arith, count, within, limited)) ∙ count

-- nothing stands behind the words that are used
pub addressed : (words : List ℕ) (used next : ℕ) (space : Space) → used ≤ length words
    → length words < 2 ^ 24 → IsAddressed (heap_in words used next space)
unfolding object_at heap_in
addressed words used next space within limited address stands =
    let count : length (take used words) ≡ used = length-take-le used words within in
    elim (cases_lt address (2 ^ 24)) [
      | inl below ↦ below
      | inr past ↦ absurd (stands (object_in_past (take used words) 0 address
          (omega (arith, count, within, limited, past))))
    ]
