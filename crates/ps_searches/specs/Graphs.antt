-- Runs that come to the same, by images of where they are, and what it is that the endings of all
-- schedules are told.
use Rattle.std.specs.Prelude.{◌≡◌, ℕ, zero, suc, ◌+◌, ◌<◌, ◌≤◌, Bool, true, false, Some, IsSome, is_some}
use Rattle.std.specs.Prelude.{List, [], ◌∷◌, ◌++◌, length, map, slice_get, All, AllPairs, Any}
use Rattle.std.specs.List.{IsDistinct}
use Rattle.ps_searches.specs.Searches.{Prices, IsNoneAbove, IsOver, IsProper, IsAmongTold}

-- each schedule to where no context can step ends as one that is told
abbrev pub EveryEnd : {E S : Type 0} → Prices → (Ends : (schedule : List ℕ) → E → Type 0)
    → (told : List (E × S)) → Type 0
EveryEnd {E} {S} price Ends told = (schedule : List ℕ) → IsProper price [] schedule
    → IsOver price schedule → IsAmongTold Ends told schedule

-- what is told of an ending: a schedule to where no context can step, whose run ends so; none that
-- ends so has fewer steps
pub record IsEndOf {E S : Type 0} (price : Prices) (Ends : (schedule : List ℕ) → E → Type 0)
    (Makes : S → (path : List ℕ) → Type 0) (told : E × S) : Type 0 where
  pub path : List ℕ
  pub makes : Makes told.1 path
  pub proper : IsProper price [] path
  pub over : IsOver price path
  pub ends : Ends path told.0
  pub least : (other : List ℕ) → IsProper price [] other → IsOver price other
      → Ends other told.0 → length path ≤ length other

-- ---- how many contexts can step

-- 1 for one that can
abbrev pub one_if : Bool → ℕ
one_if true = 1
one_if false = 0

-- of the first so many
unfoldable pub count_to : Prices → (path : List ℕ) → ℕ → ℕ
count_to price path zero = 0
count_to price path (suc n) =
    count_to price path n + one_if (is_some (price path (suc n)))

-- of all of them
pub record HasWays (price : Prices) (path : List ℕ) (ways : ℕ) : Type 0 where
  pub last : ℕ
  pub none : IsNoneAbove price path last
  pub count : ways ≡ count_to price path last

-- ---- worlds that are kept, each an image and a schedule that leads there

module _ {I S : Type 0} (price : Prices) (IsImage : I → (path : List ℕ) → Type 0)
    (Makes : S → (path : List ℕ) → Type 0) (steps : S → ℕ) where
  -- each step of the schedule can be made, and the image is of where it leads
  pub record IsKept (kept : I × S) : Type 0 where
    pub path : List ℕ
    pub makes : Makes kept.1 path
    pub proper : IsProper price [] path
    pub image : IsImage kept.0 path

  -- the image is of where this path leads, and the schedule has at most so many steps
  pub record IsNear (limit : ℕ) (path : List ℕ) (kept : I × S) : Type 0 where
    pub image : IsImage kept.0 path
    pub near : steps kept.1 ≤ limit

  -- where a path leads is among them, with at most so many steps
  abbrev pub IsKnown : (kept : List (I × S)) → (limit : ℕ) → (path : List ℕ) → Type 0
  IsKnown kept limit path = Any (IsNear limit path) kept

  -- all of them have at most so many
  abbrev pub AreNear : (kept : List (I × S)) → (limit : ℕ) → Type 0
  AreNear kept limit = All (λ (one : I × S). steps one.1 ≤ limit) kept

  -- so are they, as far as the step behind the one at a place of others
  abbrev pub AreNearTo : (others : List (I × S)) → (place : ℕ) → (kept : List (I × S)) → Type 0
  AreNearTo others place kept = (one : I × S) → slice_get others place ≡ Some one
      → AreNear kept (steps one.1 + 1)

  -- each is kept so, by a rising number of steps, and no more than there may be
  pub record AreKept (most : ℕ) (kept : List (I × S)) : Type 0 where
    pub each : All IsKept kept
    pub rising : AllPairs (λ (one later : I × S). steps one.1 ≤ steps later.1) kept
    pub within : length kept ≤ most

  -- a step from where this one is leads to one of them, which is as near
  abbrev pub LeadsInto : (kept : List (I × S)) → I × S → Type 0
  LeadsInto kept one = (path : List ℕ) → IsImage one.0 path → (context : ℕ)
      → IsSome (price path context) → IsKnown kept (steps one.1 + 1) (path ++ context ∷ [])

  -- so it is from the one at this place
  abbrev pub IsFollowed : (kept : List (I × S)) → (place : ℕ) → Type 0
  IsFollowed kept place = (one : I × S) → slice_get kept place ≡ Some one → LeadsInto kept one

  -- where no context can step at the one at this place, its ending is told
  abbrev pub IsToldAt : {E : Type 0} → (Ends : (schedule : List ℕ) → E → Type 0)
      → (kept : List (I × S)) → (told : List (E × S)) → (place : ℕ) → Type 0
  IsToldAt {E} Ends kept told place = (one : I × S) → slice_get kept place ≡ Some one
      → (path : List ℕ) → IsImage one.0 path → IsOver price path → IsAmongTold Ends told path

  -- the first so many are followed and told, and those behind them are at most a step further
  pub record AreFollowed {E : Type 0} (Ends : (schedule : List ℕ) → E → Type 0)
      (kept : List (I × S)) (told : List (E × S)) (count : ℕ) : Type 0 where
    pub first : IsKnown kept 0 []
    pub followed : (place : ℕ) → place < count → IsFollowed kept place
    pub tells : (place : ℕ) → place < count → IsToldAt Ends kept told place
    pub near : AreNearTo kept count kept

  -- a run whose own steps these are is where the one at this place is
  pub record IsComeTo (IsAt : (path : List ℕ) → Type 0) (kept : List (I × S)) (place : ℕ)
      (own : List ℕ) : Type 0 where
    pub proper : IsProper price [] own
    pub here : IsAt own
    pub image : (one : I × S) → slice_get kept place ≡ Some one → IsImage one.0 own
    pub count : (one : I × S) → slice_get kept place ≡ Some one → length own ≡ steps one.1
    pub all : (one : I × S) → slice_get kept place ≡ Some one → (path : List ℕ)
        → IsImage one.0 path → IsAt path

  -- wherever a schedule leads is among them
  abbrev pub AreAll : (kept : List (I × S)) → Type 0
  AreAll kept = (path : List ℕ) → IsProper price [] path
      → Any (λ (one : I × S). IsImage one.0 path) kept

  -- so many contexts can step where the one at this place is
  pub record LeadsOn (kept : List (I × S)) (place ways : ℕ) : Type 0 where
    pub one : I × S
    pub at : slice_get kept place ≡ Some one
    pub path : List ℕ
    pub image : IsImage one.0 path
    pub has : HasWays price path ways

  -- so many are added to a count
  abbrev pub AddsWays : (kept : List (I × S)) → (place old new : ℕ) → Type 0
  AddsWays kept place old new = (ways : ℕ) × (new ≡ old + ways) × LeadsOn kept place ways

  -- and so many from the first of them together
  abbrev pub AreBetween : (kept : List (I × S)) → (count steps : ℕ) → Type 0
  AreBetween kept zero total = total ≡ 0
  AreBetween kept (suc place) total = (before ways : ℕ) × (total ≡ before + ways)
      × LeadsOn kept place ways × AreBetween kept place before

  -- so many worlds were told apart: a schedule leads to each, no two have equal images and, if
  -- these are all, they are all that any schedule leads to, with so many steps between them
  pub record AreWorlds (eq : I → I → Bool) (worlds total : ℕ) (all : Type 0) : Type 0 where
    pub kept : List (I × S)
    pub count : length kept ≡ worlds
    pub each : All IsKept kept
    pub apart : IsDistinct eq (map (λ (one : I × S). one.0) kept)
    pub every : all → AreAll kept
    pub between : all → AreBetween kept worlds total

-- more follow the old ones
abbrev pub Grows : {X : Type 0} → (old new : List X) → Type 0
Grows {X} old new = (more : List X) × (new ≡ old ++ more)
