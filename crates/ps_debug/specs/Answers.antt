-- The answers to commands by which a run is walked.
use Rattle.std.specs.Prelude.{◌≡◌, ◌⊎◌, ◌<◌, ◌≤◌, ℕ, zero, suc, ◌+◌, ◌-◌, ◌^◌, min, Option, Some}
use Rattle.std.specs.Prelude.{None, List, [], ◌++◌, take, drop, codes}
use Rattle.std.specs.Fmt.{decimal}
use Rattle.ps_language.specs.declared.schedules.Entry.{Entry}
use Rattle.ps_language.specs.Schedules.{count_of, moves}
use Rattle.ps_language.specs.World.{World}
use Rattle.ps_places.specs.declared.origins.Origin.{Origin}
use Rattle.ps_states.specs.States.{state_text}
use Rattle.ps_states.specs.Waits.{waits_text}
use Rattle.ps_walks.specs.Finds.{IsFound}
use Rattle.ps_walks.specs.StepLines.{AreStepLines}
use Rattle.ps_walks.specs.Walks.{world_behind}
use Rattle.ps_debug.specs.declared.answers.Walkable.{Walkable}
use Rattle.ps_debug.specs.declared.answers.TheConstants.{AT_END, AT_START, HELP, NONE_FURTHER}
pub use Rattle.ps_debug.specs.Commands.{Command, forward, back, go_to, until, state, waits, help}
pub use Rattle.ps_debug.specs.Commands.{quit}

-- a run that is walked: what its program's file is called, the program, and the schedule
pub record Walk : Type 0 where
  pub file : List ℕ
  pub program : List ℕ
  pub schedule : List Entry

abbrev pub walk_of : {S D : Type 0} → Walkable S D → Walk
walk_of walk = record {
  file = walk.run.file.now;
  program = walk.run.program.now;
  schedule = walk.schedule.now;
}

-- how many steps it has; no number is larger than those of 64 bits
abbrev pub steps_in : Walk → ℕ
steps_in walk = min (count_of walk.schedule) (2 ^ 64 - 1)

-- its world behind so many
abbrev pub world_in : Walk → (step : ℕ) → World
world_in walk step = world_behind walk.program walk.schedule step

-- the lines of the steps behind so many that are past, up to that of a number
abbrev pub AreLinesOf : Walk → (past last : ℕ) → (text : List ℕ) → Type 0
AreLinesOf walk past last text = AreStepLines walk.file past (world_in walk past)
    (take (last - past) (drop past (moves walk.schedule))) text

-- where one comes to stand: the line of the step that one is behind
abbrev pub IsStanding : Walk → (step : ℕ) → (text : List ℕ) → Type 0
IsStanding walk zero text = text ≡ AT_START.now
IsStanding walk (suc past) text = AreLinesOf walk past (suc past) text

-- on from one step to another, if there is a further one
abbrev pub IsForth : Walk → (step behind : ℕ) → (text : List ℕ) → Type 0
IsForth walk step behind text = ((step < behind) × AreLinesOf walk step behind text)
    ⊎ ((behind ≤ step) × (text ≡ AT_END.now))

abbrev pub no_step : (steps : ℕ) → List ℕ
no_step steps = codes "no such step: the last one is " ++ (decimal steps ++ codes "\n")

-- to behind a step, if there are so many
abbrev pub IsAt : Walk → (step to : ℕ) → (text : List ℕ) → (behind : ℕ) → Type 0
IsAt walk step to text behind =
    ((to ≤ steps_in walk) × (behind ≡ to) × IsStanding walk to text)
    ⊎ ((steps_in walk < to) × (behind ≡ step) × (text ≡ no_step (steps_in walk)))

-- to behind the step that was found, if one was
abbrev pub IsReached : Walk → (step : ℕ) → (found : Option ℕ) → (text : List ℕ) → (behind : ℕ)
    → Type 0
IsReached walk step None text behind = (behind ≡ step) × (text ≡ NONE_FURTHER.now)
IsReached walk step (Some at) text behind = (behind ≡ at) × IsStanding walk at text

-- the state, by a table of origins that is known there
abbrev pub IsStateOf : Walk → (step : ℕ) → (text : List ℕ) → Type 0
IsStateOf walk step text = (origins : List Origin) × (text ≡ state_text
    (record { file = walk.file; program = walk.program; origins = origins }) (world_in walk step)
    step (steps_in walk))

-- what is told to a command of one who stands behind a step, and behind which step one stands then
abbrev pub IsReply : Walk → (step : ℕ) → Command → (text : List ℕ) → (behind : ℕ) → Type 0
IsReply walk step (forward more) text behind =
    (behind ≡ min (steps_in walk) (step + more)) × IsForth walk step behind text
IsReply walk step (back fewer) text behind = (behind ≡ step - fewer) × IsStanding walk behind text
IsReply walk step (go_to to) text behind = IsAt walk step to text behind
IsReply walk step (until sought) text behind = (found : Option ℕ)
    × IsFound walk.file sought step (world_in walk step) (drop step (moves walk.schedule)) found
    × IsReached walk step found text behind
IsReply walk step state text behind = (behind ≡ step) × IsStateOf walk step text
IsReply walk step waits text behind =
    (behind ≡ step) × (text ≡ waits_text (world_in walk step))
IsReply walk step help text behind = (behind ≡ step) × (text ≡ HELP.now)
IsReply walk step quit text behind = (behind ≡ step) × (text ≡ [])
