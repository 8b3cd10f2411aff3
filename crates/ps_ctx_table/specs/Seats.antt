-- Items under rising identifiers, and the list that they stand for: the item of identifier n is at
-- place n - 1, and nothing is left of one that is gone (PLRM2, 7.1).
use Rattle.std.specs.Prelude.{◌≡◌, ℕ, zero, suc, ◌+◌, ◌<◌, ◌≤◌, ◌==◌, Option, Some, None, IsSome}
use Rattle.std.specs.Prelude.{List, [], ◌∷◌, length, map, slice_get, slice_set, if◌then◌else◌}
use Rattle.std.specs.Prelude.{option_and_then}
use Rattle.std.specs.List.{range_with_len}
use Rattle.ps_language.specs.Limits.{context_limit, identifier_limit}

-- each number is above the one before it, the first above low, and none is above high
abbrev pub IsRising : (low : ℕ) → List ℕ → (high : ℕ) → Type 0
IsRising low [] high = low ≤ high
IsRising low (seat ∷ seats) high = (low < seat) × IsRising seat seats high

-- the item under an identifier
abbrev pub seated : {A : Type 0} → List ℕ → List A → (identifier : ℕ) → Option A
seated (seat ∷ seats) (item ∷ items) identifier =
    if seat == identifier then Some item else seated seats items identifier
seated _ _ identifier = None

-- the list of all that were made so far
unfoldable pub listed : {A : Type 0} → List ℕ → List A → (made : ℕ) → List (Option A)
listed seats items made = map (λ place. seated seats items (suc place)) (range_with_len 0 made)

-- each item has its number, and there are no more items and numbers than a world may have
pub record AreSeats {A : Type 0} (seats : List ℕ) (items : List A) (made : ℕ) : Type 0 where
  pub rising : IsRising 0 seats made
  pub same : length items ≡ length seats
  pub few : length seats ≤ context_limit
  pub within : made ≤ identifier_limit

-- ---- the list

-- the item of an identifier, unless it is gone
abbrev pub item_at : {A : Type 0} → List (Option A) → (identifier : ℕ) → Option A
item_at list zero = None
item_at list (suc place) = option_and_then (λ item. item) (slice_get list place)

-- the least identifier above another under which an item is left, if there is one
abbrev pub IsNextLeft : {A : Type 0} → List (Option A) → (identifier : ℕ) → Option ℕ → Type 0
IsNextLeft list identifier None = (k : ℕ) → identifier < k → item_at list k ≡ None
IsNextLeft list identifier (Some next) = (identifier < next) × IsSome (item_at list next)
    × ((k : ℕ) → identifier < k → k < next → item_at list k ≡ None)

-- another in its place
abbrev pub with_item : {A : Type 0} → List (Option A) → (identifier : ℕ) → Option A
    → List (Option A)
with_item list zero item = list
with_item list (suc place) item = slice_set list place item

-- how many are left
abbrev pub count_left : {A : Type 0} → List (Option A) → ℕ
count_left [] = 0
count_left (None ∷ rest) = count_left rest
count_left (Some item ∷ rest) = count_left rest + 1

-- these, in order
abbrev pub items_left : {A : Type 0} → List (Option A) → List A
items_left [] = []
items_left (None ∷ rest) = items_left rest
items_left (Some item ∷ rest) = item ∷ items_left rest
