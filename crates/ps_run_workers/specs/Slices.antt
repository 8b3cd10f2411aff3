-- What a run is between the calls that make slices of it.
use Rattle.std.specs.Prelude.{◌≡◌, ◌+◌, ◌-◌, ◌≤◌, ◌^◌, ℕ, false, List, [], Option, None, IfSome, min}
use Rattle.ps_language.specs.declared.schedules.Entry.{Entry}
use Rattle.ps_language.specs.Effect.{Around, Scene}
use Rattle.ps_language.specs.Schedules.{Begins, count_of}
use Rattle.ps_language.specs.World.{Status}
use Rattle.ps_ops_state.specs.Acts.{Asked}
use Rattle.ps_mem.specs.Bounded.{bounded_space}
use Rattle.ps_mem.specs.Heap.{Heap, Grants}
use Rattle.ps_vault.specs.declared.reports.Config.{Config}
use Rattle.ps_vault.specs.declared.reports.Outcome.{Outcome}
use Rattle.ps_vault.specs.declared.reports.Report.{Report}
use Rattle.ps_vault.specs.Parking.{IsParked, story_of}
use Rattle.ps_vault.specs.Reports.{bounds_of, IsRunIn}
use Rattle.ps_vault.specs.Screens.{Sight}
use Rattle.ps_vault.specs.Stories.{Story, kept_of, world_at}
use Rattle.ps_run_workers.specs.declared.pauses.Paused.{Paused}
use Rattle.ps_run_workers.specs.Batons.{beginning, Keeps, Progress, Start}

-- ---- what a slice promises

-- the steps of a schedule and so many more, up to as many as a run may have
abbrev pub budget_behind : (given : List Entry) → (steps : ℕ) → ℕ
budget_behind given steps = min (count_of given + steps) (2 ^ 32 - 1)

-- a report of what was printed so far, and of the schedule, with this outcome
pub record IsReportOf (story : Story) (end : Outcome) (report : Report) : Type 0 where
  pub printed : report.printed.items ≡ (world_at story).printed
  pub schedule : report.schedule ≡ kept_of story
  pub outcome : report.outcome ≡ end

-- Behind a slice: the program and the bounds of the run stay, and its steps come behind those that
-- were made, and are within the budget. All of it, from the start, is a run with that budget, which
-- ended so. Asks: what a step asks for that the language doesn't say
pub record IsSlice (asks : Status → Around → Scene → Asked) (budget : ℕ) (old new : Story)
    (outcome : Option Outcome) : Type 0 where
  pub program : new.program ≡ old.program
  pub most : new.most ≡ old.most
  pub space : new.space ≡ old.space
  pub begins : Begins old.schedule new.schedule
  pub within : count_of new.schedule ≤ budget
  pub run : IfSome outcome (λ one. (report : Report) → IsReportOf new one report
      → IsRunIn asks (bounded_space new.space) new.program budget report)

-- no step was made yet, of this program, by these numbers
pub record HasBegun (text : List ℕ) (config : Config) (story : Story) : Type 0 where
  pub program : story.program ≡ text
  pub schedule : story.schedule ≡ []
  pub most : story.most ≡ bounds_of config
  pub space : story.space ≡ config.space

-- ---- what is kept between slices

-- who watches nothing
abbrev pub no_sight : Sight
no_sight = record { seen = None; watching = false; shown = 0; failed = false }

-- what a run begins with that no one watches
abbrev pub begun : (program : List ℕ) → Config → Start
begun program config = beginning program config no_sight

-- what it goes on from
abbrev pub start_at : Story → Config → Start
start_at story config = record {
  program = story.program;
  config = config;
  sight = no_sight;
  schedule = story.schedule;
}

-- where it is, so many steps being made of all that its numbers say
abbrev pub at_pause : Story → Config → (made : ℕ) → Sight → Progress
at_pause story config made sight = record {
  story = story;
  config = config;
  made = made;
  budget = config.steps;
  sight = sight;
  outcome = None;
}

module _ {M S D : Type 0} (asks : Status → Around → Scene → Asked) (heap : M → Heap)
    (grants : M → Grants)
  where
    -- a run that began so has come to this
    pub record HasCome (start : Start) (paused : Paused M S D) : Type 0 where
      pub progress : Progress
      pub keeps : Keeps asks start progress
      pub parked : IsParked heap grants progress.story.program paused.parked
      pub story : story_of heap grants progress.story.program paused.parked ≡ progress.story
      pub config : paused.config ≡ progress.config
      pub made : paused.made ≡ progress.made
      pub outcome : paused.outcome ≡ progress.outcome

    -- it rests where it may go on
    pub record Rests (program : List ℕ) (paused : Paused M S D) : Type 0 where
      pub parked : IsParked heap grants program paused.parked
      pub keeps : Keeps asks (start_at (story_of heap grants program paused.parked) paused.config)
          (at_pause (story_of heap grants program paused.parked) paused.config paused.made no_sight)
