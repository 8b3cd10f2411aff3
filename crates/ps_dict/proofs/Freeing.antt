-- The free place of an index that a search comes to first.
use Rattle.std.proofs.Common.{◌≡◌, ◌≢◌, ℕ, zero, suc, ◌+◌, ◌-◌, ◌*◌, ◌%◌, ◌^◌, ◌<◌, ◌≤◌, true, false, List, [], ◌∷◌, ◌++◌, length, map, take, drop, replicate, Option, Some, None, refl, sym, ap, ◌∙◌, arith, subst, inl, inr, nat_lt}
use Rattle.std.specs.Prelude.{slice_get, slice_set, if◌then◌else◌}
use Rattle.std.proofs.lemmas.List.{length-drop, length-replicate, take-append-drop}
use Rattle.std.proofs.lemmas.Bool.{cases_lt}
use Rattle.ps_word.specs.declared.words.Word.{Word}
use Rattle.ps_word.specs.Format.{content_in}
use Rattle.ps_word.specs.Readers.{as_integer}
use Rattle.ps_mem.specs.Heap.{zero_word}
use Rattle.ps_mem.specs.Index.{index_word, has_free, filled, placed}
use Rattle.ps_dict.specs.Probes.{turned}
use Rattle.ps_dict.proofs.IndexPlaces.{IsBelow, turned-length}
use Rattle.std.proofs.lemmas.List.{length-map}
use Rattle.ps_language.specs.declared.kinds.Kind.TheVariants.{Dictionary as DictionaryKind}
use Rattle.ps_mem.specs.Heap.{Heap, birth_at, fields_at}
use Rattle.ps_mem.specs.Index.{hash_of, hashes_of}
use Rattle.ps_mem.specs.References.{StandsAs}
use Rattle.ps_mem.specs.Shows.{IsSound}
use Rattle.ps_mem.proofs.Lists.{all_at}
use Rattle.ps_dict.specs.Places.{count_at, capacity_at, body_at, pairs_at}
use Rattle.ps_dict.proofs.Shapes.{length-pairs}
use Rattle.ps_dict.proofs.IndexPlaces.{free_or}
use Rattle.ps_dict.proofs.Probing.{places, places-index, places-words, places-below, few-places, index_word-none, zero-content, get-append_left, get-append_right, get-drop, get-turned, from-map, below_test, past_test}

filled-at : (p k : ℕ) (ys : List (Option ℕ)) → has_free (take k ys) ≡ false
    → slice_get ys k ≡ Some None → filled p ys ≡ slice_set ys k (Some p)
filled-at p k [] none at = cc
filled-at p zero (None ∷ ys) none at = refl
filled-at p zero (Some q ∷ ys) none at = cc
filled-at p (suc k) (None ∷ ys) none at = cc
filled-at p (suc k) (Some q ∷ ys) none at = ap (λ zs. Some q ∷ zs) (filled-at p k ys none at)

has-at : (k : ℕ) (ys : List (Option ℕ)) → slice_get ys k ≡ Some None → has_free ys ≡ true
has-at k [] at = cc
has-at zero (None ∷ ys) at = refl
has-at zero (Some q ∷ ys) at = cc
has-at (suc k) (None ∷ ys) at = refl
has-at (suc k) (Some q ∷ ys) at = has-at k ys at

-- no free place in a front of two lists
none-first : (k : ℕ) (ys zs : List (Option ℕ)) → k ≤ length ys
    → has_free (take k (ys ++ zs)) ≡ false → has_free (take k ys) ≡ false
none-first zero ys zs h none = refl
none-first (suc k) [] zs h none = absurd (omega (arith, h))
none-first (suc k) (None ∷ ys) zs h none = cc
none-first (suc k) (Some q ∷ ys) zs h none = none-first k ys zs (omega (arith, h)) none

none-all : (k : ℕ) (ys zs : List (Option ℕ)) → has_free (take (length ys + k) (ys ++ zs)) ≡ false
    → (has_free ys ≡ false) × (has_free (take k zs) ≡ false)
none-all k [] zs none = (
  refl,
  ap (λ n. has_free (take n zs)) (let e : k ≡ 0 + k = omega arith in e)
      ∙ none,
)
none-all k (None ∷ ys) zs none =
    let e : length {A = Option ℕ} (None ∷ ys) + k ≡ suc (length ys + k) = omega arith in
    let clash : true ≡ false = sym (ap (λ n. has_free (take n (None ∷ (ys ++ zs)))) e) ∙ none in cc
none-all k (Some q ∷ ys) zs none =
    let e : length {A = Option ℕ} (Some q ∷ ys) + k ≡ suc (length ys + k) = omega arith in
    none-all k ys zs (sym (ap (λ n. has_free (take n (Some q ∷ (ys ++ zs)))) e) ∙ none)

set-behind : {A : Type 0} (s k : ℕ) (xs : List A) (y : A) → take s xs
    ++ slice_set (drop s xs) k y ≡ slice_set xs (s + k) y
set-behind zero k xs y = ap (λ n. slice_set xs n y) (let e : k ≡ 0 + k = omega arith in e)
set-behind (suc s) k [] y = refl
set-behind (suc s) k (x ∷ xs) y = ap (λ zs. x ∷ zs) (set-behind s k xs y)
    ∙ sym (ap (λ n. slice_set (x ∷ xs) n y) (let e : suc s + k ≡ suc (s + k) = omega arith in e))

set-front : {A : Type 0} (s j : ℕ) (xs : List A) (y : A) → j < s → slice_set (take s xs) j y
    ++ drop s xs ≡ slice_set xs j y
set-front zero j xs y h = absurd (omega (arith, h))
set-front (suc s) j [] y h = refl
set-front (suc s) zero (x ∷ xs) y h = ap (λ zs. y ∷ zs) (take-append-drop s xs)
set-front (suc s) (suc j) (x ∷ xs) y h = ap (λ zs. x ∷ zs) (set-front s j xs y (omega (arith, h)))

-- a position goes where the search stops
pub placed-there : (p s k : ℕ) (xs : List (Option ℕ)) → s < length xs → k < length xs
    → has_free (take k (turned s xs)) ≡ false → slice_get (turned s xs) k ≡ Some None
    → placed p s xs ≡ slice_set xs (if nat_lt (s + k) (length xs) then s + k else s + k - length xs)
    (Some p)
unfolding placed turned
placed-there p s k xs start here none at =
    let dropped : length (drop s xs) ≡ length xs - s = length-drop s xs in
    elim (cases_lt (s + k) (length xs)) [
      | inl below ↦
          let first : slice_get (drop s xs) k ≡ Some None =
          sym (get-append_left (drop s xs) (take s xs) k (omega (arith, dropped, below)))
          ∙ at in
          let none' : has_free (take k (drop s xs)) ≡ false =
          none-first k (drop s xs) (take s xs) (omega (arith, dropped, below)) none in
          rw (below_test (s + k) (length xs) below)
          (rw (has-at k (drop s xs) first)
          (ap (λ zs. take s xs ++ zs) (filled-at p k (drop s xs) none' first)
          ∙ set-behind s k xs (Some p)))
      | inr past ↦
          let j : ℕ = s + k - length xs in
          let there : length (drop s xs) + j ≡ k = omega (arith, dropped, past, start, here) in
          let both = none-all j (drop s xs) (take s xs)
          (ap (λ n. has_free (take n (drop s xs ++ take s xs))) there ∙ none) in
          let second : slice_get (take s xs) j ≡ Some None =
          sym (get-append_right (drop s xs) (take s xs) j)
          ∙ (ap (slice_get (drop s xs ++ take s xs)) there ∙ at) in
          rw (past_test (s + k) (length xs) past)
          (rw both.0
          (ap (λ zs. zs ++ drop s xs) (filled-at p j (take s xs) both.1 second)
          ∙ set-front s j xs (Some p) (omega (arith, past, start, here))))
    ]

take-more : (k : ℕ) (xs : List (Option ℕ)) (q : ℕ) → has_free (take k xs) ≡ false
    → slice_get xs k ≡ Some (Some q) → has_free (take (k + 1) xs) ≡ false
take-more k xs q none at = ap (λ n. has_free (take n xs)) (let e : k + 1 ≡ suc k = omega arith in e)
    ∙ more k xs q none at
  where
    more : (k : ℕ) (xs : List (Option ℕ)) (q : ℕ) → has_free (take k xs) ≡ false
        → slice_get xs k ≡ Some (Some q) → has_free (take (suc k) xs) ≡ false
    more k [] q none at = cc
    more zero (None ∷ xs) q none at = cc
    more zero (Some r ∷ xs) q none at = refl
    more (suc k) (None ∷ xs) q none at = cc
    more (suc k) (Some r ∷ xs) q none at = more k xs q none at

take-past : {A : Type 0} (k : ℕ) (xs : List A) → length xs ≤ k → take k xs ≡ xs
take-past zero [] h = refl
take-past zero (x ∷ xs) h = absurd (omega (arith, h))
take-past (suc k) [] h = refl
take-past (suc k) (x ∷ xs) h = ap (λ zs. x ∷ zs) (take-past k xs (omega (arith, h)))

free-turned_has : (s : ℕ) (xs : List (Option ℕ)) → has_free (turned s xs) ≡ false
    → has_free xs ≡ false
unfolding turned
free-turned_has s xs none =
    let both = halves (drop s xs) (take s xs) none in
    ap has_free (sym (take-append-drop s xs)) ∙ joined (take s xs) (drop s xs) both.1 both.0
  where
    halves : (ys zs : List (Option ℕ)) → has_free (ys ++ zs) ≡ false → (has_free ys ≡ false)
        × (has_free zs ≡ false)
    halves [] zs none = (refl, none)
    halves (None ∷ ys) zs none = cc
    halves (Some q ∷ ys) zs none = halves ys zs none

    joined : (ys zs : List (Option ℕ)) → has_free ys ≡ false → has_free zs ≡ false
        → has_free (ys ++ zs) ≡ false
    joined [] zs f g = g
    joined (None ∷ ys) zs f g = cc
    joined (Some q ∷ ys) zs f g = joined ys zs f g

-- ---- by the words

module _ (fields : List Word) (n : ℕ) (places : List (Option ℕ))
    (words : drop (2 * n) fields ≡ map index_word places) (count : length places ≡ n)
    (small : (place q : ℕ) → slice_get places place ≡ Some (Some q) → q < 2 ^ 31) (start : ℕ)
    (first : start < n) where
  pub free-end : (k : ℕ) → n ≤ k → has_free (take k (turned start places)) ≡ false
      → has_free places ≡ true → ⊥
  free-end k past none has =
      let all : take k (turned start places) ≡ turned start places =
      take-past k (turned start places)
      (let e = turned-length start places in omega (arith, e, count, past)) in
      let clash : true ≡ false = sym has
      ∙ free-turned_has start places (sym (ap has_free all) ∙ none) in cc

  module _ (k : ℕ) (below : k < n) (w : Word)
      (read : slice_get fields (2 * n + (if nat_lt (start + k) n then start + k else start + k - n))
      ≡ Some w) where
    looked : (x : Option ℕ) ×
        (slice_get places (if nat_lt (start + k) n then start + k else start + k - n) ≡ Some x)
        × (index_word x ≡ w)
    looked =
        let place : ℕ = if nat_lt (start + k) n then start + k else start + k - n in
        from-map places place w (ap (λ ws. slice_get ws place) (sym words)
        ∙ (get-drop (2 * n) fields place ∙ read))

    turned_at : slice_get (turned start places) k ≡ Some looked.0
    turned_at =
        get-turned places start k (omega (arith, first, count)) (omega (arith, below, count))
        ∙ (subst (λ m. slice_get places (if nat_lt (start + k) m then start + k else start + k - m)
        ≡ Some looked.0) (sym count) looked.1)

    looked-small : IsBelow (2 ^ 31) looked.0
    looked-small = go looked.0 looked.1
      where
        go : (x : Option ℕ) → slice_get places
            (if nat_lt (start + k) n then start + k else start + k - n) ≡ Some x
            → IsBelow (2 ^ 31) x
        go None at = tt
        go (Some q) at = small (if nat_lt (start + k) n then start + k else start + k - n) q at

    pub free-here : as_integer (content_in w.0) ≡ None
        → has_free (take k (turned start places)) ≡ false → (p : ℕ)
        → placed p start places ≡ slice_set places
        (if nat_lt (start + k) n then start + k else start + k - n) (Some p)
    free-here e none p =
        let is : looked.0 ≡ None =
        index_word-none looked.0 looked-small
        (ap (λ (v : Word). as_integer (content_in v.0)) looked.2 ∙ e) in
        subst (λ m. placed p start places ≡ slice_set places
        (if nat_lt (start + k) m then start + k else start + k - m) (Some p)) count
        (placed-there p start k places (omega (arith, first, count)) (omega (arith, below, count))
        none (turned_at ∙ ap Some is))

    pub free-on : as_integer (content_in w.0) ≢ None
        → has_free (take k (turned start places)) ≡ false
        → has_free (take (k + 1) (turned start places)) ≡ false
    free-on e none = go looked.0 turned_at looked.2
      where
        go : (x : Option ℕ) → slice_get (turned start places) k ≡ Some x → index_word x ≡ w
            → has_free (take (k + 1) (turned start places)) ≡ false
        go None at is = absurd (e
            (sym (ap (λ (v : Word). as_integer (content_in v.0)) is) ∙ zero-content))
        go (Some q) at is = take-more k (turned start places) q none at

-- ---- of a list of words

-- a list of words behind twice as many nulls, as an index stands behind the pairs
module _ (ws : List Word) (n : ℕ) (spots : List (Option ℕ)) (words : ws ≡ map index_word spots)
    (count : length spots ≡ n)
    (small : (place q : ℕ) → slice_get spots place ≡ Some (Some q) → q < 2 ^ 31) (start : ℕ)
    (first : start < n) where
  behind_nulls : List Word
  behind_nulls = replicate (2 * n) zero_word ++ ws

  nulls : length (replicate (2 * n) zero_word) ≡ 2 * n
  nulls = length-replicate (2 * n) zero_word

  read-behind : (i : ℕ) → slice_get behind_nulls (2 * n + i) ≡ slice_get ws i
  unfolding behind_nulls
  read-behind i = ap (λ m. slice_get (replicate (2 * n) zero_word ++ ws) (m + i)) (sym nulls)
      ∙ get-append_right (replicate (2 * n) zero_word) ws i

  words-behind : drop (2 * n) behind_nulls ≡ map index_word spots
  unfolding behind_nulls
  words-behind = ap (λ m. drop m (replicate (2 * n) zero_word ++ ws)) (sym nulls)
      ∙ (dropped (replicate (2 * n) zero_word) ws ∙ words)
    where
      dropped : (xs ys : List Word) → drop (length xs) (xs ++ ys) ≡ ys
      dropped [] ys = refl
      dropped (x ∷ xs) ys = dropped xs ys

  pub free-end_in : (k : ℕ) → n ≤ k → has_free (take k (turned start spots)) ≡ false
      → has_free spots ≡ true → ⊥
  free-end_in = free-end behind_nulls n spots words-behind count small start first

  module _ (k : ℕ) (below : k < n) (w : Word)
      (read : slice_get ws (if nat_lt (start + k) n then start + k else start + k - n) ≡ Some w)
    where
      read-here : slice_get behind_nulls
          (2 * n + (if nat_lt (start + k) n then start + k else start + k - n)) ≡ Some w
      read-here = read-behind (if nat_lt (start + k) n then start + k else start + k - n) ∙ read

      pub free-here_in : as_integer (content_in w.0) ≡ None
          → has_free (take k (turned start spots)) ≡ false → (p : ℕ)
          → placed p start spots ≡ slice_set spots
          (if nat_lt (start + k) n then start + k else start + k - n) (Some p)
      free-here_in = free-here behind_nulls n spots words-behind count small start first k below w
          read-here

      pub free-on_in : as_integer (content_in w.0) ≢ None
          → has_free (take k (turned start spots)) ≡ false
          → has_free (take (k + 1) (turned start spots)) ≡ false
      free-on_in = free-on behind_nulls n spots words-behind count small start first k below w
          read-here

-- ---- of a dictionary with room

module _ (h : Heap) (a : ℕ) (known : StandsAs h DictionaryKind a 4) (sound : IsSound h)
    (room : count_at h a < capacity_at h a) where
  places-small : (place q : ℕ) → slice_get (places h a known sound) place ≡ Some (Some q)
      → q < 2 ^ 31
  places-small place q at =
      let below : IsBelow (count_at h a) (Some q) =
      all_at (IsBelow (count_at h a)) (places h a known sound) place (Some q)
      (places-below h a known sound) at in
      let few = few-places h a known sound in
      omega (arith, below, few, room)

  places-free : has_free (places h a known sound) ≡ true
  places-free = elim (free_or (places h a known sound)) [
    | inl (has, _) ↦ has
    | inr (_, none) ↦
        let left = (places-index h a known sound).left in
        let count : length (hashes_of (birth_at h) (pairs_at h a)) ≡ count_at h a =
        length-map (pairs_at h a) (λ (pair : Word × Word). hash_of (birth_at h) pair.0)
        ∙ length-pairs h a known sound in
        absurd (omega (arith, left, count, none, room))
  ]

  -- what the search for a free place says of it
  pub place-given : (g : Heap) (b n p : ℕ) (key : Word) → g ≡ h → b ≡ body_at h a
      → n ≡ capacity_at h a
      → ((xs : List (Option ℕ)) → drop (2 * n) (fields_at g b) ≡ map index_word xs → length xs ≡ n
      → ((place q : ℕ) → slice_get xs place ≡ Some (Some q) → q < 2 ^ 31) → has_free xs ≡ true
      → (position : ℕ) → placed position (hash_of (birth_at g) key % n) xs ≡ slice_set xs p
      (Some position))
      → placed (count_at h a) (hash_of (birth_at h) key % capacity_at h a) (places h a known sound)
      ≡ slice_set (places h a known sound) p (Some (count_at h a))
  place-given g b n p key same is capacity given =
      subst (λ m. placed (count_at h a) (hash_of (birth_at h) key % m) (places h a known sound) ≡
      slice_set (places h a known sound) p (Some (count_at h a))) capacity
      (subst (λ (x : Heap). placed (count_at h a) (hash_of (birth_at x) key % n)
      (places h a known sound) ≡ slice_set (places h a known sound) p (Some (count_at h a)))
      same
      (given (places h a known sound)
      (ap (λ (x : Heap). drop (2 * n) (fields_at x b)) same
      ∙ (ap (λ c. drop (2 * n) (fields_at h c)) is
      ∙ (ap (λ m. drop (2 * m) (fields_at h (body_at h a))) capacity
      ∙ places-words h a known sound)))
      ((places-index h a known sound).count ∙ sym capacity) places-small places-free
      (count_at h a)))
