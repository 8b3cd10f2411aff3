-- A program's runs, as a search makes them.
use Rattle.std.specs.Prelude.{◌≡◌, ◌≤◌, ℕ, true, Option, None, List, map}
use Rattle.ps_language.specs.declared.schedules.Entry.{Entry}
use Rattle.ps_language.specs.Schedules.{Move, moves}
use Rattle.ps_language.specs.World.{World}
use Rattle.ps_language.specs.Worlds.{after_moves, starting_world, world, IsProper}
use Rattle.ps_run_schedules.specs.Keeping.{Kept}
use Rattle.ps_searches.specs.declared.found.Told.{Told}
use Rattle.ps_vault.specs.Reports.{EndsAs}
use Rattle.ps_vault.specs.Stories.{Story}
use Rattle.ps_cuts.specs.declared.endings.Ending.{Ending}
use Rattle.ps_cuts.specs.Cuts.{AllPlain, IsOrder, cuts, holder, last_of, steps_by}

-- the contexts of a schedule's steps
abbrev pub contexts_of : (schedule : List Entry) → List ℕ
contexts_of schedule = map (λ (move : Move). move.context) (moves schedule)

-- a run ends so at this world: that was printed, and that is the outcome where no step is left
pub record EndsLike (now : World) (ending : Ending) : Type 0 where
  pub printed : ending.printed.items ≡ now.printed
  pub outcome : EndsAs now true ⊥ ending.outcome

-- a program's run of these steps does
abbrev pub EndsBy : (program : List ℕ) → (path : List ℕ) → Ending → Type 0
EndsBy program path ending = EndsLike (after_moves (starting_world program) (steps_by path)) ending

-- all of a run under way but that each of its steps was one that could be made: its vault's story,
-- its schedule, whose turn it is, and whose the last step was
pub record IsMade (story : Story) (path : List Entry) (turn : Option ℕ) (last : ℕ) : Type 0 where
  pub caller : story.caller ≡ None
  pub kept : path ≡ story.schedule
  pub plain : AllPlain (moves story.schedule)
  pub holds : turn ≡ holder (starting_world story.program) (moves story.schedule)
  pub ends : last ≡ last_of (moves story.schedule)

-- and that, of this program
pub record IsRun (program : List ℕ) (story : Story) (path : List Entry) (turn : Option ℕ)
    (last : ℕ) : Type 0 where
  pub same : story.program ≡ program
  pub made : IsMade story path turn last
  pub proper : IsProper story.program story.schedule

-- what is told of an ending: an order that ends so, with as many cuts as its price; none that ends
-- so has fewer
pub record IsToldOf (program : List ℕ) (steps : ℕ) (told : Ending × Told Kept) : Type 0 where
  pub order : IsOrder program steps told.1.schedule.items
  pub ends : EndsLike (world program told.1.schedule.items) told.0
  pub costs : cuts program (moves told.1.schedule.items) ≡ told.1.price
  pub least : (other : List Entry) → IsOrder program steps other
      → EndsLike (world program other) told.0 → told.1.price ≤ cuts program (moves other)

-- a told ending is that of this world
abbrev pub EndsAsTold : (now : World) → Ending × Told Kept → Type 0
EndsAsTold now told = EndsLike now told.0
