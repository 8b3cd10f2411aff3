-- What runs promise.
use Rattle.std.specs.Prelude.{◌≡◌, ℕ, zero, suc, ◌++◌, take, ◌+◌, ◌<◌, ◌≤◌, ◌^◌, ◌==◌, nat_lt, ℤ, pos, negsuc, Bool, true, false, IsTrue, Option, Some, None, List, [], ◌∷◌, length, drop, not, ◌&&◌, ◌⊎◌}
use Rattle.std.specs.List.{list_all}
use Rattle.ps_language.specs.declared.schedules.Entry.{Entry}
use Rattle.ps_language.specs.Effect.{Around, Scene}
use Rattle.ps_language.specs.Locks.{is_ready}
use Rattle.ps_language.specs.Schedules.{Begins, Move, moves, count_of, is_longest}
use Rattle.ps_language.specs.World.{Status, World}
use Rattle.ps_language.specs.Worlds as worlds
use Rattle.ps_language.specs.Worlds.{IsProper, is_all_over, is_some_ready, IsFinished, IsFaulted, IsAllWaiting}
use Rattle.ps_ops_state.specs.Acts.{Asked}
use Rattle.ps_mem.specs.Heap.{Space}
use Rattle.ps_mem.specs.Plain.{plain_space}
use Rattle.ps_ctx.specs.Growth.{may_fail}
use Rattle.ps_ctx.specs.Needs.{step_wants}
use Rattle.ps_run_schedules.specs.Keeping.{Kept, MayAdd}
use Rattle.ps_vault.specs.declared.reports.Config.{Config}
use Rattle.ps_vault.specs.declared.reports.Outcome.{Outcome}
use Rattle.ps_vault.specs.declared.reports.Outcome.TheVariants.{Finished, Faulted, AllWaiting, StepsOut, Memory}
use Rattle.ps_vault.specs.declared.reports.Report.{Report}
use Rattle.ps_vault.specs.declared.reports.TheConstants.{FIRST_ENTRIES}
use Rattle.ps_vault.specs.Warrants.{AllWarranted}

-- each number is in its range
pub record IsWithin (config : Config) : Type 0 where
  pub space_low : 4096 ≤ config.space
  pub space_high : config.space ≤ 1048576
  pub workers_low : 1 ≤ config.workers
  pub workers_high : config.workers ≤ 32
  pub quantum_low : 1 ≤ config.quantum
  pub quantum_high : config.quantum ≤ 65535
  pub steps_low : 1 ≤ config.steps

-- a number of words that a schedule can have
abbrev pub is_number_of_words : ℤ → Bool
is_number_of_words (pos words) = nat_lt 0 words && nat_lt words (2 ^ 31)
is_number_of_words (negsuc words) = false

abbrev pub are_words : Option (ℤ × ℤ) → Bool
are_words None = true
are_words (Some pair) = is_number_of_words pair.0 && is_number_of_words pair.1

-- a schedule can have the numbers of this step
abbrev pub fits : Move → Bool
fits move = nat_lt move.context (2 ^ 32) && are_words move.shown

-- it can have those of each
abbrev pub all_fit : List Move → Bool
all_fit steps = list_all fits steps

-- an ordinary step: it isn't refused either
abbrev pub is_ordinary : Move → Bool
is_ordinary move = not move.refused && fits move

abbrev pub are_ordinary : List Move → Bool
are_ordinary steps = list_all is_ordinary steps

-- a schedule has no room for a step of a context: memory has none for two entries more, or the step
-- joins no entry and there are as many as there may be
pub data IsShort (schedule : Kept) (context : ℕ) : Type 0 where
  no_words_left : schedule.capacity < length schedule.items + 2 → IsShort schedule context
  no_entry_left : ¬ MayAdd schedule context → IsShort schedule context

-- how a run ended at this world; used up says that no step is left. Want of memory comes only
-- before any other end, and only where something is starved
abbrev pub EndsAs : World → (used_up : Bool) → (Starved : Type 0) → Outcome → Type 0
EndsAs w used_up Starved Finished = IsFinished w
EndsAs w used_up Starved Faulted = IsFaulted w
EndsAs w used_up Starved AllWaiting = IsAllWaiting w
EndsAs w used_up Starved StepsOut =
    (is_all_over w ≡ false) × (is_some_ready w ≡ true) × (used_up ≡ true)
EndsAs w used_up Starved Memory = (used_up ≡ false) × (is_all_over w ≡ false) × Starved

-- asks: what a step asks for that the language doesn't say; grows: whether the memory of objects
-- does
module _ (asks : Status → Around → Scene → Asked) (grows : Bool) where
  -- the context is ready, and a growth that its step may want may fail
  pub record MayWant (context : ℕ) (refused : Bool) (w : World) : Type 0 where
    pub ready : is_ready w context ≡ true
    pub wants : IsTrue (may_fail grows (step_wants asks context refused w))

  -- or the schedule has no room for it
  pub record IsStarved (context : ℕ) (refused : Bool) (w : World) (schedule : Kept)
      : Type 0 where
    pub ready : is_ready w context ≡ true
    pub wants : IsTrue (may_fail grows (step_wants asks context refused w))
        ⊎ IsShort schedule context

  -- one is; a step is refused only where it makes objects, in a memory that doesn't grow
  pub record IsOneStarved (w : World) (schedule : Kept) : Type 0 where
    pub context : ℕ
    pub refused : Bool
    pub makes : refused ≡ true → (1 ≤ (step_wants asks context false w).words) × (grows ≡ false)
    pub starved : IsStarved context refused w schedule

-- a run of the program with a budget of steps, in a memory of this space: its bytes are those that
-- the definitions print under its schedule, which is proper and of the longest entries, and the
-- outcome is that of its world; what its steps are shown is of that space, and they are refused
-- only
-- where it has no room for them. The schedule had room from the start, and can have its numbers
pub record IsRunIn (asks : Status → Around → Scene → Asked) (space : Space) (program : List ℕ)
    (steps : ℕ) (report : Report) : Type 0 where
  pub prints : report.printed.items ≡ worlds.printed program report.schedule.items
  pub proper : IsProper program report.schedule.items
  pub longest : is_longest report.schedule.items ≡ true
  pub within : count_of report.schedule.items ≤ steps
  pub fits : all_fit (moves report.schedule.items) ≡ true
  pub warranted : AllWarranted space.size program report.schedule.items
  pub room : FIRST_ENTRIES ≤ report.schedule.capacity
  pub ends : EndsAs (worlds.world program report.schedule.items)
      (count_of report.schedule.items == steps)
      (IsOneStarved asks space.grows (worlds.world program report.schedule.items)
      report.schedule) report.outcome

-- a run over a memory that grows, whose steps are all ordinary
pub record IsRunOf (asks : Status → Around → Scene → Asked) (program : List ℕ) (steps : ℕ)
    (report : Report) : Type 0 where
  pub run : IsRunIn asks plain_space program steps report
  pub ordinary : are_ordinary (moves report.schedule.items) ≡ true

-- how many bytes a run may print, and how many entries its schedule may have
pub record Bounds : Type 0 where
  pub output : ℕ
  pub entries : ℕ

-- those of a run's numbers
abbrev pub bounds_of : Config → Bounds
bounds_of config = record { output = config.output; entries = config.entries }

-- no more bytes were printed, and the schedule has no more entries
pub record IsBounded (most : Bounds) (report : Report) : Type 0 where
  pub printed : length report.printed.items ≤ most.output
  pub schedule : length report.schedule.items ≤ most.entries

-- whether it is for want of memory
abbrev pub is_memory : Outcome → Bool
is_memory Memory = true
is_memory _ = false

-- whether the first of these steps is refused
abbrev pub is_first_refused : List Move → Bool
is_first_refused [] = false
is_first_refused (move ∷ rest) = move.refused

-- the context of the first
abbrev pub first_identifier : List Move → ℕ
first_identifier [] = 0
first_identifier (move ∷ rest) = move.context

-- the steps of a given schedule behind those that were made
abbrev pub steps_behind : (given made : List Entry) → List Move
steps_behind given made = drop (count_of made) (moves given)

-- whether the next of them is refused
abbrev pub is_next_refused : (given made : List Entry) → Bool
is_next_refused given made = is_first_refused (steps_behind given made)

-- whose it is
abbrev pub next_identifier : (given made : List Entry) → ℕ
next_identifier given made = first_identifier (steps_behind given made)

-- the next of them may want a growth that may fail, in a memory that grows
abbrev pub MayWantNext : (asks : Status → Around → Scene → Asked) → (program : List ℕ)
    → (given made : List Entry) → Type 0
MayWantNext asks program given made =
    MayWant asks true (next_identifier given made) (is_next_refused given made)
    (worlds.world program made)

-- ---- a schedule that was cut

-- so many steps of a context as the end of a schedule: an entry, or nothing where there are none
abbrev pub entry_of : (context steps : ℕ) → List Entry
entry_of context zero = []
entry_of context (suc steps) =
    record { context = context; steps = suc steps; refused = false; shown = None } ∷ []

-- whole entries of a given schedule, and then perhaps some steps of the next
pub record IsCutOf (given made : List Entry) : Type 0 where
  pub place : ℕ
  pub context : ℕ
  pub steps : ℕ
  pub is : made ≡ take place given ++ entry_of context steps

-- ---- a schedule that was followed

-- no collector has worked
abbrev pub IsUncollected : Report → Type 0
IsUncollected report = (report.flips ≡ 0) × (report.taken ≡ 0)

-- a run under a given schedule: its bytes are those that the definitions print under the steps that
-- were made. Those are all of the given ones, or for want of memory a beginning of them, and the
-- outcome is that of their world. Asks: what a step asks for that the language doesn't say
pub record IsReplayOf (asks : Status → Around → Scene → Asked) (program : List ℕ)
    (given : List Entry) (report : Report) : Type 0 where
  pub prints : report.printed.items ≡ worlds.printed program report.schedule.items
  pub begins : Begins report.schedule.items given
  pub cut : IsCutOf given report.schedule.items
  pub whole : is_memory report.outcome ≡ false → report.schedule.items ≡ given
  pub refused : is_memory report.outcome ≡ true
      → count_of report.schedule.items < count_of given
  pub ends : EndsAs (worlds.world program report.schedule.items) (not (is_memory report.outcome))
      (MayWantNext asks program given report.schedule.items) report.outcome
  pub uncollected : IsUncollected report

-- ---- a run that was cut, where its output failed

-- it holds of this budget, or, where the run was cut, of one that isn't greater
abbrev pub WithBudget : (cut : Bool) → (steps : ℕ) → (Run : ℕ → Type 0) → Type 0
WithBudget cut steps Run =
    (budget : ℕ) × (budget ≤ steps) × (cut ≡ false → budget ≡ steps) × Run budget

-- it holds of this schedule, or, where the run was cut, of a beginning of it
abbrev pub UnderPart : (cut : Bool) → (given : List Entry) → (Run : List Entry → Type 0) → Type 0
UnderPart cut given Run = (part : List Entry) × Begins part given × IsCutOf given part
    × (cut ≡ false → part ≡ given) × Run part
