-- The index of the pairs of a dictionary but one, gathered position by position.
use Rattle.std.proofs.Common.{◌≡◌, ℕ, zero, suc, ◌+◌, ◌*◌, ◌%◌, ◌^◌, ◌<◌, ◌≤◌, true, List, [], ◌∷◌, length, map, take, replicate, Option, Some, refl, sym, ap, ◌∙◌, arith, subst, inl, inr, nat_lt}
use Rattle.std.specs.Prelude.{slice_get, slice_set, if◌then◌else◌}
use Rattle.std.proofs.lemmas.List.{length-map, length-take-le, take_all}
use Rattle.std.proofs.lemmas.Bool.{cases_lt}
use Rattle.ps_language.specs.declared.kinds.Kind.TheVariants.{Dictionary as DictionaryKind}
use Rattle.ps_word.specs.declared.words.Word.{Word}
use Rattle.ps_word.specs.Format.{IsWord}
use Rattle.ps_mem.specs.Heap.{Heap, birth_at, fields_at, zero_word}
use Rattle.ps_mem.specs.Index.{hash_of, hashes_of, has_free, placed, index_of, index_word, index_words}
use Rattle.ps_mem.specs.References.{StandsAs}
use Rattle.ps_mem.specs.Shows.{IsNatural, IsValue, IsSound}
use Rattle.ps_mem.proofs.Lists.{all_at}
use Rattle.ps_dict.specs.Places.{count_at, capacity_at, body_at, pairs_at}
use Rattle.ps_dict.specs.Removals.{without_place}
use Rattle.ps_dict.proofs.Shapes.{count-fits, length-pairs}
use Rattle.ps_dict.proofs.Reading.{key-value, key-pair}
use Rattle.ps_dict.proofs.Probing.{few-places, below_test, past_test}
use Rattle.ps_dict.proofs.IndexPlaces.{IsBelow, IsIndex, is-index, free_or}
use Rattle.ps_dict.proofs.Appending.{index_words-more}
use Rattle.ps_dict.proofs.Indexing.{take-next, length-index_words}
use Rattle.ps_dict.proofs.Making.{no-index}

-- ---- a list without what stands at a place

pub length-without : {A : Type 0} (xs : List A) (i : ℕ) → i < length xs
    → length (without_place xs i) + 1 ≡ length xs
unfolding without_place
length-without [] i h = absurd (omega arith)
length-without (x ∷ xs) zero h = omega arith
length-without (x ∷ xs) (suc i) h = let e = length-without xs i (omega (arith, h)) in
    omega (arith, e)

get-behind : {A : Type 0} (xs : List A) (p i : ℕ) → i ≤ p
    → slice_get (without_place xs i) p ≡ slice_get xs (suc p)
unfolding without_place
get-behind [] p i h = refl
get-behind (x ∷ xs) p zero h = refl
get-behind (x ∷ xs) zero (suc i) h = absurd (omega (arith, h))
get-behind (x ∷ xs) (suc p) (suc i) h = get-behind xs p i (omega (arith, h))

get-before : {A : Type 0} (xs : List A) (p i : ℕ) → p < i
    → slice_get (without_place xs i) p ≡ slice_get xs p
unfolding without_place
get-before [] p i h = refl
get-before (x ∷ xs) p zero h = absurd (omega (arith, h))
get-before (x ∷ xs) zero (suc i) h = refl
get-before (x ∷ xs) (suc p) (suc i) h = get-before xs p i (omega (arith, h))

get-without : {A : Type 0} (xs : List A) (p i : ℕ)
    → slice_get (without_place xs i) p ≡ slice_get xs (if nat_lt p i then p else p + 1)
get-without xs p i = elim (cases_lt p i) [
  | inl before ↦ rw (below_test p i before) (get-before xs p i before)
  | inr behind ↦ rw (past_test p i behind)
      (get-behind xs p i behind ∙ ap (slice_get xs) (let e : suc p ≡ p + 1 = omega arith in e))
]

beside-within : (p i n : ℕ) → p + 1 < n → (if nat_lt p i then p else p + 1) < n
beside-within p i n h = elim (cases_lt p i) [
  | inl before ↦ rw (below_test p i before) (omega (arith, h))
  | inr behind ↦ rw (past_test p i behind) h
]

-- ---- position by position

-- the index of the first of some pairs, in a list outside the memory
module _ (births : ℕ → ℕ) (capacity : ℕ) (few : capacity ≤ 21845) (pairs : List (Word × Word))
    (room : length pairs ≤ capacity) (p : ℕ) (more : p < length pairs) where
  first_fit : length (take p pairs) ≡ p
  first_fit = length-take-le p pairs (omega (arith, more))

  abbrev hashes : List ℕ
  hashes = hashes_of births (take p pairs)

  hashes-count : length hashes ≡ p
  hashes-count = length-map (take p pairs) (λ (pair : Word × Word). hash_of births pair.0)
      ∙ first_fit

  abbrev pub positions : List (Option ℕ)
  positions = index_of capacity (hashes_of births (take p pairs))

  index : IsIndex capacity hashes positions
  index = is-index capacity hashes (let n = hashes-count in omega (arith, n, more, room))

  pub positions-words : index_words births capacity (take p pairs) ≡ map index_word positions
  unfolding index_words
  positions-words = refl

  pub positions-count : length positions ≡ capacity
  positions-count = index.count

  pub positions-long : length (index_words births capacity (take p pairs)) ≡ capacity
  positions-long = length-index_words births capacity (take p pairs)
      (let n = first_fit in omega (arith, n, more, room))

  pub positions-small : (place q : ℕ) → slice_get positions place ≡ Some (Some q) → q < 2 ^ 31
  positions-small place q at =
      let low : IsBelow (length hashes) (Some q) =
      all_at (IsBelow (length hashes)) positions place (Some q) index.below at in
      let n = hashes-count in
      omega (arith, low, n, more, room, few)

  pub positions-free : has_free positions ≡ true
  positions-free = elim (free_or positions) [
    | inl (has, _) ↦ has
    | inr (_, none) ↦ let left = index.left in let n = hashes-count in
        absurd (omega (arith, left, n, none, more, room))
  ]

  pub positions-next : (k v : Word) → slice_get pairs p ≡ Some (k, v) → (place : ℕ) → (w : Word)
      → IsNatural w p → IsWord w.0
      → placed p (hash_of births k % capacity) positions ≡ slice_set positions place (Some p)
      → slice_set (index_words births capacity (take p pairs)) place w ≡ index_words births
      capacity (take (p + 1) pairs)
  positions-next k v pair place w natural word there_is =
      index_words-more births capacity (take p pairs) k v place w
      (let n = first_fit in omega (arith, n, more, room))
      (subst (IsNatural w) (sym first_fit) natural) word
      (subst (λ m. placed m (hash_of births k % capacity) positions ≡ slice_set positions place
      (Some m)) (sym first_fit) there_is)
      ∙ ap (index_words births capacity) (sym (take-next pairs p (k, v) pair))

module _ (h : Heap) (a : ℕ) (known : StandsAs h DictionaryKind a 4) (sound : IsSound h) (gone : ℕ)
    (there : gone < count_at h a) where
  abbrev pub rest : List (Word × Word)
  rest = without_place (pairs_at h a) gone

  pub length-rest : length rest + 1 ≡ count_at h a
  length-rest = let n = length-pairs h a known sound in
      length-without (pairs_at h a) gone (omega (arith, n, there)) ∙ n

  abbrev pub gathered : ℕ → List Word
  gathered p = index_words (birth_at h) (capacity_at h a) (take p rest)

  pub gathered-none : replicate (capacity_at h a) zero_word ≡ gathered 0
  gathered-none = no-index (birth_at h) (capacity_at h a)

  pub gathered-all : (p : ℕ) → count_at h a ≤ p + 1
      → gathered p ≡ index_words (birth_at h) (capacity_at h a) rest
  gathered-all p past = ap (index_words (birth_at h) (capacity_at h a))
      (take_all p rest (let n = length-rest in omega (arith, n, past)))

  module _ (p : ℕ) (more : p + 1 < count_at h a) where
    few : capacity_at h a ≤ 21845
    few = few-places h a known sound

    room : length rest ≤ capacity_at h a
    room = let n = length-rest in let fits = count-fits h a known sound in omega (arith, n, fits)

    below : p < length rest
    below = let n = length-rest in omega (arith, n, more)

    abbrev pub spots : List (Option ℕ)
    spots = index_of (capacity_at h a) (hashes_of (birth_at h) (take p rest))

    pub gathered-words : gathered p ≡ map index_word spots
    gathered-words = positions-words (birth_at h) (capacity_at h a) few rest room p below

    pub gathered-count : length spots ≡ capacity_at h a
    gathered-count = positions-count (birth_at h) (capacity_at h a) few rest room p below

    pub gathered-long : length (gathered p) ≡ capacity_at h a
    gathered-long = positions-long (birth_at h) (capacity_at h a) few rest room p below

    pub gathered-small : (place q : ℕ) → slice_get spots place ≡ Some (Some q) → q < 2 ^ 31
    gathered-small = positions-small (birth_at h) (capacity_at h a) few rest room p below

    pub gathered-free : has_free spots ≡ true
    gathered-free = positions-free (birth_at h) (capacity_at h a) few rest room p below

    abbrev pub from : ℕ
    from = if nat_lt p gone then p else p + 1

    pub from-within : from < count_at h a
    from-within = beside-within p gone (count_at h a) more

    module _ (k : Word) (read : slice_get (fields_at h (body_at h a)) (2 * from) ≡ Some k) where
      pub gathered-key : IsValue h k
      gathered-key = key-value h a known sound from from-within k read

      pub gathered-next : (place : ℕ) → (w : Word) → IsNatural w p → IsValue h w
          → placed p (hash_of (birth_at h) k % capacity_at h a) spots ≡ slice_set spots place
          (Some p)
          → slice_set (gathered p) place w ≡ gathered (p + 1)
      gathered-next place w natural held there_is =
          let (v, pair) = key-pair h a known sound from from-within k read in
          positions-next (birth_at h) (capacity_at h a) few rest room p below k v
          (get-without (pairs_at h a) p gone ∙ pair) place w natural held.word there_is
