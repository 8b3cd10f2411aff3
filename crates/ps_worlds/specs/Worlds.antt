-- Every order of a program's steps, however long, and how each ends.
use Rattle.std.specs.Prelude.{◌≡◌, ◌≤◌, ℕ, Any, Bool, false, List}
use Rattle.ps_language.specs.declared.schedules.Entry.{Entry}
use Rattle.ps_language.specs.Locks.{is_ready}
use Rattle.ps_language.specs.Schedules.{count_of, moves}
use Rattle.ps_language.specs.Worlds.{world, IsProper}
use Rattle.ps_cuts.specs.Cuts.{AllPlain, price}
use Rattle.ps_cuts.specs.declared.endings.Ending.{Ending}
use Rattle.ps_cuts.specs.Runs.{EndsLike}
use Rattle.ps_run_schedules.specs.Keeping.{Kept}
use Rattle.ps_searches.specs.Graphs.{AreWorlds}
use Rattle.ps_worlds.specs.declared.images.Image.{Image}
use Rattle.ps_worlds.specs.Runs.{IsImage, MakesPath}

-- a proper schedule of ordinary steps
pub record IsWay (program : List ℕ) (schedule : List Entry) : Type 0 where
  pub proper : IsProper program schedule
  pub plain : AllPlain (moves schedule)

-- one behind which no context is ready
pub record IsWholeWay (program : List ℕ) (schedule : List Entry) : Type 0 where
  pub way : IsWay program schedule
  pub over : (context : ℕ) → is_ready (world program schedule) context ≡ false

-- each of them, however long it is, ends as one that is told
abbrev pub EveryWayEnds : (program : List ℕ) → (told : List (Ending × Kept)) → Type 0
EveryWayEnds program told = (schedule : List Entry) → IsWholeWay program schedule
    → Any (λ (one : Ending × Kept). EndsLike (world program schedule) one.0) told

-- what is told of an ending: one that ends so; none that ends so has fewer steps
pub record IsToldOf (program : List ℕ) (told : Ending × Kept) : Type 0 where
  pub way : IsWholeWay program told.1.items
  pub ends : EndsLike (world program told.1.items) told.0
  pub least : (other : List Entry) → IsWholeWay program other
      → EndsLike (world program other) told.0 → count_of told.1.items ≤ count_of other

-- so many worlds were told apart, by this test of two images, with so many steps between them if
-- these are all: of memories in which some words stood at the start
pub record AreCounted (eq : Image → Image → Bool) (program : List ℕ) (worlds steps : ℕ)
    (all : Type 0) : Type 0 where
  pub first : List ℕ
  pub are : AreWorlds (price program) (IsImage program first) MakesPath
      (λ (schedule : Kept). count_of schedule.items) eq worlds steps all
