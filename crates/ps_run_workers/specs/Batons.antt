-- What clauses see of a baton, and what it keeps.
use Rattle.std.specs.Prelude.{◌≡◌, ◌+◌, ◌*◌, ◌<◌, ◌≤◌, ◌^◌, ◌==◌, ◌⊎◌, ℕ, true, false, List, [], Option, IfSome, Result, IfOk, OnErr, length}
use Rattle.ps_language.specs.declared.schedules.Entry.{Entry}
use Rattle.ps_language.specs.Effect.{Around, Scene}
use Rattle.ps_language.specs.Locks.{is_ready}
use Rattle.ps_language.specs.Schedules.{Begins, count_of, moves}
use Rattle.ps_language.specs.World.{Status}
use Rattle.ps_ops_state.specs.Acts.{Asked}
use Rattle.ps_mem.specs.Bounded.{bounded_space}
use Rattle.ps_vault.specs.declared.reports.Config.{Config}
use Rattle.ps_vault.specs.declared.reports.Outcome.{Outcome}
use Rattle.ps_vault.specs.declared.reports.Report.{Report}
use Rattle.ps_vault.specs.declared.reports.RunFault.{RunFault}
use Rattle.ps_vault.specs.declared.reports.TheConstants.{FIRST_ENTRIES}
use Rattle.ps_vault.specs.Reports.{all_fit, bounds_of, EndsAs, IsBounded, IsOneStarved, IsRunIn, IsWithin, WithBudget}
use Rattle.ps_vault.specs.Screens.{HasShown, HasShownSome, Sight}
use Rattle.ps_vault.specs.Stories.{Story, MayGo, AreWarranted, UsesOnlyLive, kept_of, world_at}
use Rattle.ps_vault.specs.Warrants.{IsRefusal, many_steps}

-- what a run began with, or goes on from: its program, its numbers, what its viewer had seen, and the
-- steps that were made before
pub record Start : Type 0 where
  pub program : List ℕ
  pub config : Config
  pub sight : Sight
  pub schedule : List Entry

-- what a run begins with from its first step
abbrev pub beginning : (program : List ℕ) → Config → Sight → Start
beginning program config sight =
    record { program = program; config = config; sight = sight; schedule = [] }

-- the vault's story, the numbers of the run, the steps that were made, the most that may be, what
-- was shown, and how the run ended, if it has
pub record Progress : Type 0 where
  pub story : Story
  pub config : Config
  pub made : ℕ
  pub budget : ℕ
  pub sight : Sight
  pub outcome : Option Outcome

-- whose call waits is ready, and steps are left
pub record MayGoOn (p : Progress) (context : ℕ) : Type 0 where
  pub calling : MayGo p.story context
  pub ready : is_ready (world_at p.story) context ≡ true
  pub left : p.made < p.budget

-- a context is starved at the vault's world, in a memory that doesn't grow. Asks: what a step asks
-- for that the language doesn't say
abbrev pub IsStarvedAt : (asks : Status → Around → Scene → Asked) → Story → Type 0
IsStarvedAt asks story = IsOneStarved asks false (world_at story) (kept_of story)

-- what was shown of what was printed, from what its viewer had seen; who doesn't watch is shown
-- nothing
pub record IsWatched (first : Sight) (p : Progress) : Type 0 where
  pub shown : HasShown first.seen p.sight (world_at p.story).printed
  pub watching : p.sight.watching ≡ first.watching
  pub still : first.watching ≡ false → p.sight ≡ first

-- The program and the numbers are those that the run began with, and its steps come behind those that
-- were made before. The steps are counted and within
-- the budget, which is the run's unless showing failed, and a schedule can have their numbers; the
-- output's bound and the space are those of the run; what the steps are shown, and that they are
-- refused, is warranted in that space; whose call waits may go on; at most three cycles were flipped
-- for a step, and three more; and where the run has ended, it ended so
pub record Keeps (asks : Status → Around → Scene → Asked) (start : Start) (p : Progress)
    : Type 0 where
  pub program : p.story.program ≡ start.program
  pub config : p.config ≡ start.config
  pub begins : Begins start.schedule p.story.schedule
  pub watched : IsWatched start.sight p
  pub numbers : IsWithin p.config
  pub few : p.config.steps < 2 ^ 32
  pub budget : p.budget ≤ p.config.steps
  pub whole : p.sight.failed ≡ false → p.budget ≡ p.config.steps
  pub counted : count_of p.story.schedule ≡ p.made
  pub within : p.made ≤ p.budget
  pub fits : all_fit (moves p.story.schedule) ≡ true
  pub most : p.story.most ≡ bounds_of p.config
  pub space : p.story.space ≡ p.config.space
  pub warranted : AreWarranted p.story
  pub flips : p.story.flips ≤ 3 * p.made + 3
  pub room : FIRST_ENTRIES ≤ p.story.capacity
  pub waits : IfSome p.story.caller (MayGoOn p)
  pub judged : IfSome p.outcome
      (EndsAs (world_at p.story) (p.made == p.budget) (IsStarvedAt asks p.story))

-- all is as it was, but that objects may have moved, a cycle may be open or not, and logs closed
abbrev pub SameProgress : (old new : Progress) → Type 0
SameProgress old new = new ≡ record old {
  story =
      record old.story {
        used = new.story.used;
        flips = new.story.flips;
        cycle_open = new.story.cycle_open;
        closed = new.story.closed;
      };
}

-- nothing is used but what lives, or the numbers of cycles may have run out
abbrev pub IsTight : Progress → Type 0
IsTight p = UsesOnlyLive p.story ⊎ (many_steps ≤ p.made)

-- a refusal of the next step of this context is warranted
abbrev pub MayRefuse : Progress → (context : ℕ) → Type 0
MayRefuse p context =
    IsRefusal p.story.space (world_at p.story) context (count_of p.story.schedule)

-- only the world goes on
pub record GoesOn (old new : Progress) : Type 0 where
  pub program : new.story.program ≡ old.story.program
  pub config : new.config ≡ old.config

-- ---- how a run ends

-- A run that began so has ended: its report is of a run with its budget, or, where showing failed,
-- with a smaller one, and what was shown is of what that prints; a fault leaves what was shown of
-- what the program prints under a schedule. Who doesn't watch is shown nothing
pub record HasEnded (asks : Status → Around → Scene → Asked) (start : Start)
    (report : Result Report RunFault) (sight : Sight) : Type 0 where
  pub run : IfOk report (λ made. WithBudget sight.failed start.config.steps
      (λ budget. IsRunIn asks (bounded_space start.config.space) start.program budget made))
  pub shown : IfOk report (λ made. HasShown start.sight.seen sight made.printed.items)
  pub unshown : OnErr report (HasShownSome start.program start.sight.seen sight)
  pub still : start.sight.watching ≡ false → sight ≡ start.sight
  pub bounded : IfOk report (IsBounded (bounds_of start.config))
