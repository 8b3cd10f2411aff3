-- Paths through a tree of runs, and what it is that the endings of all of them are told.
use Rattle.std.specs.Prelude.{◌≡◌, ℕ, ◌+◌, ◌-◌, ◌<◌, ◌≤◌, Option, Some, None, IsSome, unwrap_or}
use Rattle.std.specs.Prelude.{List, [], ◌∷◌, ◌++◌, length, ◌⊎◌, All, Any, Contains, Bool, true, false}
use Rattle.ps_searches.specs.declared.found.Search.{Search}
use Rattle.ps_searches.specs.declared.found.Told.{Told}

-- what a step of a context costs behind a path, which is the contexts of the steps so far; None
-- where the context can't step
abbrev pub Prices : Type 0
Prices = (path : List ℕ) → (context : ℕ) → Option ℕ

-- no context can step
abbrev pub IsOver : Prices → (path : List ℕ) → Type 0
IsOver price path = (context : ℕ) → price path context ≡ None

-- a step of this context costs nothing, and that of no other
pub record IsFree (price : Prices) (path : List ℕ) (context : ℕ) : Type 0 where
  pub free : price path context ≡ Some 0
  pub only : (other : ℕ) → price path other ≡ Some 0 → other ≡ context

-- none above a context can step
abbrev pub IsNoneAbove : Prices → (path : List ℕ) → (after : ℕ) → Type 0
IsNoneAbove price path after = (context : ℕ) → after < context → price path context ≡ None

-- the least above it that can step
pub record IsNextAbove (price : Prices) (path : List ℕ) (after next : ℕ) : Type 0 where
  pub above : after < next
  pub can : IsSome (price path next)
  pub least : (context : ℕ) → after < context → context < next → price path context ≡ None

-- ---- schedules

-- behind a path each of these steps is one that can be made
abbrev pub IsProper : Prices → (path more : List ℕ) → Type 0
IsProper price path [] = Unit {0}
IsProper price path (context ∷ more) = IsSome (price path context)
    × IsProper price (path ++ context ∷ []) more

-- what they cost together
abbrev pub cost : Prices → (path more : List ℕ) → ℕ
cost price path [] = 0
cost price path (context ∷ more) = unwrap_or (price path context) 0
    + cost price (path ++ context ∷ []) more

-- they are as many as there may be, or fewer, and no context can step behind them
abbrev pub IsWhole : Prices → (steps : ℕ) → (path more : List ℕ) → Type 0
IsWhole price steps path more = (length more ≡ steps)
    ⊎ ((length more ≤ steps) × IsOver price (path ++ more))

-- each step can be made, up to the end of a run of at most so many
pub record IsSchedule (price : Prices) (steps : ℕ) (schedule : List ℕ) : Type 0 where
  pub proper : IsProper price [] schedule
  pub whole : IsWhole price steps [] schedule

-- ---- what is told of them

-- a schedule's run ends as one that is told
abbrev pub IsAmongTold : {E V : Type 0} → (Ends : (schedule : List ℕ) → E → Type 0)
    → (told : List (E × V)) → (schedule : List ℕ) → Type 0
IsAmongTold {E} {V} Ends told schedule = Any (λ (one : E × V). Ends schedule one.0) told

module _ {E S : Type 0} (price : Prices) (Ends : (schedule : List ℕ) → E → Type 0) where
  -- each schedule that costs less than so much ends as one that is told
  abbrev pub EveryEnding : (steps below : ℕ) → (told : List (E × Told S)) → Type 0
  EveryEnding steps below told = (schedule : List ℕ) → IsSchedule price steps schedule
      → cost price [] schedule < below → IsAmongTold Ends told schedule

  -- what is told of an ending: a schedule whose run ends so, and what that costs; none that ends so
  -- costs less
  pub record IsTold (Makes : S → (path : List ℕ) → Type 0) (steps : ℕ) (told : E × Told S)
      : Type 0 where
    pub path : List ℕ
    pub makes : Makes told.1.schedule path
    pub schedule : IsSchedule price steps path
    pub ends : Ends path told.0
    pub costs : cost price [] path ≡ told.1.price
    pub least : (other : List ℕ) → IsSchedule price steps other → Ends other told.0
        → told.1.price ≤ cost price [] other

-- ---- on the way

-- behind a path these steps can be made, and cost exactly so much together
abbrev pub Costs : Prices → (total : ℕ) → (path more : List ℕ) → Type 0
Costs price total path [] = total ≡ 0
Costs price total path (context ∷ more) = (one : ℕ) × (price path context ≡ Some one)
    × (one ≤ total) × Costs price (total - one) (path ++ context ∷ []) more

-- each of them is the one that costs nothing
abbrev pub AreFree : Prices → (path more : List ℕ) → Type 0
AreFree price path [] = Unit {0}
AreFree price path (context ∷ more) = IsFree price path context
    × AreFree price (path ++ context ∷ []) more

-- a path goes on by them to its end: a run of at most so many
pub record GoesFreely (price : Prices) (steps : ℕ) (path whole : List ℕ) : Type 0 where
  pub more : List ℕ
  pub is : whole ≡ path ++ more
  pub free : AreFree price path more
  pub end : IsWhole price steps path more

-- a run ended so, under this schedule, which went on from a path freely
pub record IsEnd {E S : Type 0} (price : Prices) (Ends : (schedule : List ℕ) → E → Type 0)
    (Makes : S → (path : List ℕ) → Type 0) (steps : ℕ) (path : List ℕ) (ending : E)
    (schedule : S) : Type 0 where
  pub whole : List ℕ
  pub makes : Makes schedule whole
  pub goes : GoesFreely price steps path whole
  pub ends : Ends whole ending

-- an ending is told beside others, where it is none of them
abbrev pub AddsEnding : {E V : Type 0} → (eq : E → E → Bool) → (old : List (E × V)) → (one : E × V)
    → (new : List (E × V)) → Type 0
AddsEnding {E} {V} eq old one new =
    ((new ≡ old) × Any (λ (told : E × V). eq one.0 told.0 ≡ true) old)
    ⊎ ((new ≡ old ++ one ∷ [])
    × ((told : E × V) → Contains old told → eq one.0 told.0 ≡ false))

-- the steps so far and so many more are as many as there may be; they cost so much less than what
-- is looked for
pub record IsOnWay (price : Prices) (steps at : ℕ) (path : List ℕ) (left toll : ℕ) : Type 0 where
  pub count : length path + left ≡ steps
  pub spent : ℕ
  pub total : spent + toll ≡ at
  pub costs : Costs price spent [] path

module _ {E S : Type 0} (price : Prices) (Ends : (schedule : List ℕ) → E → Type 0) where
  -- each is told as it is to be, and so is each ending of a cheaper schedule
  pub record AreTold (Makes : S → (path : List ℕ) → Type 0) (steps at : ℕ)
      (told : List (E × Told S)) : Type 0
    where
      pub each : All (IsTold price Ends Makes steps) told
      pub cheaper : EveryEnding price Ends steps at told

  -- however a path goes on to its end at exactly that price, its ending is told
  abbrev pub AllTold : (left toll : ℕ) → (path : List ℕ) → (told : List (E × Told S)) → Type 0
  AllTold left toll path told = (more : List ℕ) → Costs price toll path more
      → IsWhole price left path more → IsAmongTold Ends told (path ++ more)

-- what was told is told
abbrev pub Keeps : {E V : Type 0} → (Ends : (schedule : List ℕ) → E → Type 0)
    → (old new : List (E × V)) → Type 0
Keeps Ends old new = (schedule : List ℕ) → IsAmongTold Ends old schedule
    → IsAmongTold Ends new schedule

-- ---- a search under way

-- no more runs were made than may be; the first run is told, and each tells one ending at most
pub record IsCounted {E S W : Type 0} (search : Search E S W) : Type 0 where
  pub within : search.runs ≤ search.bounds.runs
  pub fewer : length search.endings.entries ≤ search.runs
  pub some : 1 ≤ search.runs → 1 ≤ length search.endings.entries

module _ {E S W : Type 0} (price : Prices) (Ends : (schedule : List ℕ) → E → Type 0)
    (Makes : S → (path : List ℕ) → Type 0) where
  -- it may go on from a path, with so many steps left, which are to cost so much
  pub record MayGoOn (search : Search E S W) (path : List ℕ) (left toll : ℕ) : Type 0 where
    pub way : IsOnWay price search.bounds.steps search.price path left toll
    pub told : AreTold price Ends Makes search.bounds.steps search.price search.endings.entries
    pub runs : IsCounted search

  -- it went on, within its bounds, at the same price
  pub record GoesOn (old new : Search E S W) : Type 0 where
    pub told : AreTold price Ends Makes new.bounds.steps new.price new.endings.entries
    pub keeps : Keeps Ends old.endings.entries new.endings.entries
    pub runs : IsCounted new
    pub more : old.runs ≤ new.runs
    pub bounds : new.bounds ≡ old.bounds
    pub same : new.price ≡ old.price

-- as many runs were made as may be
abbrev pub IsUsedUp : {E S W : Type 0} → Search E S W → Type 0
IsUsedUp search = search.runs ≡ search.bounds.runs
