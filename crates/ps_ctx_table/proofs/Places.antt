-- The item of an identifier through changes of the list.
use Rattle.std.proofs.Common.{◌≡◌, ◌≢◌, ◌∙◌, ℕ, zero, suc, ◌≤◌, arith, List, [], ◌∷◌, length, Option, Some, None, refl}
use Rattle.std.proofs.Common.{sym, ap}
use Rattle.std.specs.Prelude.{option_and_then, slice_get, slice_set}
use Rattle.ps_ctx_table.specs.Seats.{item_at, with_item}

module _ {A : Type 0} where
  same_place : (list : List (Option A)) (place : ℕ) (item : A)
      → option_and_then (λ one. one) (slice_get list place) ≡ Some item
      → slice_set list place (Some item) ≡ list
  same_place [] place item found = refl
  same_place (None ∷ list) zero item found = cc
  same_place (Some one ∷ list) zero item found = ap (λ head. head ∷ list) (sym found)
  same_place (one ∷ list) (suc place) item found =
      ap (λ rest. one ∷ rest) (same_place list place item found)

  -- with the same in its place
  pub with_item-same : (list : List (Option A)) (identifier : ℕ) (item : A)
      → item_at list identifier ≡ Some item → with_item list identifier (Some item) ≡ list
  with_item-same list zero item found = refl
  with_item-same list (suc place) item found = same_place list place item found

  twice_place : (list : List (Option A)) (place : ℕ) (first second : Option A)
      → slice_set (slice_set list place first) place second ≡ slice_set list place second
  twice_place [] place first second = refl
  twice_place (one ∷ list) zero first second = refl
  twice_place (one ∷ list) (suc place) first second =
      ap (λ rest. one ∷ rest) (twice_place list place first second)

  -- the later one stands
  pub with_item-twice : (list : List (Option A)) (identifier : ℕ) (first second : Option A)
      → with_item (with_item list identifier first) identifier second
      ≡ with_item list identifier second
  with_item-twice list zero first second = refl
  with_item-twice list (suc place) first second = twice_place list place first second

  there_place : (list : List (Option A)) (place : ℕ) (old : A) (item : Option A)
      → option_and_then (λ one. one) (slice_get list place) ≡ Some old
      → option_and_then (λ one. one) (slice_get (slice_set list place item) place) ≡ item
  there_place [] place old item found = cc
  there_place (one ∷ list) zero old None found = refl
  there_place (one ∷ list) zero old (Some item) found = refl
  there_place (one ∷ list) (suc place) old item found = there_place list place old item found

  -- where there was one
  pub item_at-with_item : (list : List (Option A)) (identifier : ℕ) (old : A) (item : Option A)
      → item_at list identifier ≡ Some old → item_at (with_item list identifier item) identifier
      ≡ item
  item_at-with_item list zero old item found = cc
  item_at-with_item list (suc place) old item found = there_place list place old item found

  get_apart : (list : List (Option A)) (place other : ℕ) (item : Option A) → place ≢ other
      → slice_get (slice_set list place item) other ≡ slice_get list other
  get_apart [] place other item apart = refl
  get_apart (one ∷ list) zero zero item apart = absurd (apart refl)
  get_apart (one ∷ list) zero (suc other) item apart = refl
  get_apart (one ∷ list) (suc place) zero item apart = refl
  get_apart (one ∷ list) (suc place) (suc other) item apart =
      get_apart list place other item (λ e. apart (ap (λ n. suc n) e))

  -- another's item is the same
  pub item_at-apart : (list : List (Option A)) (identifier other : ℕ) (item : Option A)
      → identifier ≢ other → item_at (with_item list identifier item) other ≡ item_at list other
  item_at-apart list zero other item apart = refl
  item_at-apart list (suc place) zero item apart = refl
  item_at-apart list (suc place) (suc other) item apart =
      ap (option_and_then (λ one. one))
      (get_apart list place other item (λ e. apart (ap (λ n. suc n) e)))

  -- no other is there
  pub one_there : (list : List (Option A)) (identifier : ℕ) (one other : A)
      → item_at list identifier ≡ Some one → item_at list identifier ≡ Some other
      → one ≡ other
  one_there list identifier one other found there =
      let same : Some one ≡ Some other = sym found ∙ there in cc

  place_within : (list : List (Option A)) (place : ℕ) (item : A)
      → option_and_then (λ one. one) (slice_get list place) ≡ Some item
      → suc place ≤ length list
  place_within [] place item found = absurd (cc)
  place_within (one ∷ list) zero item found = omega arith
  place_within (one ∷ list) (suc place) item found =
      let less = place_within list place item found in omega (arith, less)

  -- none is above the last that was made
  pub identifier_within : (list : List (Option A)) (identifier : ℕ) (item : A)
      → item_at list identifier ≡ Some item → identifier ≤ length list
  identifier_within list zero item found = omega arith
  identifier_within list (suc place) item found = place_within list place item found
