-- What a host asks for, and what it is handed of a run.
use Rattle.std.specs.Prelude.{◌≡◌, ◌<◌, ◌≤◌, ◌++◌, ◌^◌, ◌-◌, ◌⊎◌, ◌==◌, min, ℕ, ℤ, pos, Bool, true, false, not, List, [], ◌∷◌, Option, Some, None, Result, Ok, Err, slice_index_or, take, drop, map, length, if◌then◌else◌}
use Rattle.ps_language.specs.declared.schedules.Entry.{Entry}
use Rattle.ps_language.specs.Effect.{Around, Scene}
use Rattle.ps_language.specs.Schedules.{count_of, Begins}
use Rattle.ps_language.specs.World.{Status}
use Rattle.ps_ops_state.specs.Acts.{Asked}
use Rattle.ps_mem.specs.Bounded.{bounded_space}
use Rattle.ps_mem.specs.Heap.{Space}
use Rattle.ps_mem.specs.Plain.{plain_space}
use Rattle.ps_ctx_start.specs.declared.start.TheConstants.{ANY_OUTPUT}
use Rattle.ps_run_schedules.specs.Texts.{AreEntries}
use Rattle.ps_run_workers.specs.Slices.{budget_behind}
use Rattle.ps_vault.specs.declared.reports.Config.{Config}
use Rattle.ps_vault.specs.declared.reports.Outcome.{Outcome}
use Rattle.ps_vault.specs.declared.reports.Outcome.TheVariants.{Finished, Faulted, AllWaiting, StepsOut, Memory}
use Rattle.ps_vault.specs.declared.reports.Report.{Report}
use Rattle.ps_vault.specs.declared.reports.TheConstants.{ANY_ENTRIES}
use Rattle.ps_vault.specs.Reports.{bounds_of, IsBounded, IsReplayOf, IsRunIn, IsWithin, is_memory}
use Rattle.ps_run_hosts.specs.declared.hosting.Refusal.{Refusal}
use Rattle.ps_run_hosts.specs.declared.hosting.Refusal.TheVariants.{OutOfRange, NoRoom, OtherSchedule, BadEntry, Closed, Open}
use Rattle.ps_run_hosts.specs.declared.numbers.Settings.{Settings}
use Rattle.ps_run_hosts.specs.declared.numbers.HostEntry.{HostEntry}

-- a flag as a number
abbrev pub number_of : Bool → ℕ
number_of false = 0
number_of true = 1

-- ---- what a host asks for

-- how many numbers of settings there are
abbrev pub settings_known : ℕ
settings_known = 8

-- the settings by a host's numbers, in their order: one that it doesn't give is the usual one. So a
-- host goes on working with a library that knows more
abbrev pub settings_in : List ℕ → Settings
settings_in numbers = record {
  space = slice_index_or numbers 0 65536;
  quantum = slice_index_or numbers 1 100;
  steps = slice_index_or numbers 2 (2 ^ 32 - 1);
  plain = number_of (not (slice_index_or numbers 3 0 == 0));
  output = slice_index_or numbers 4 0;
  entries = slice_index_or numbers 5 0;
  keys = record { first = slice_index_or numbers 6 0; second = slice_index_or numbers 7 0 };
}

-- nothing is asked for that isn't known: the numbers behind the known ones are 0
abbrev pub IsKnown : List ℕ → Type 0
IsKnown numbers = (place : ℕ) → settings_known ≤ place → place < length numbers
    → slice_index_or numbers place 0 ≡ 0

-- such numbers are settings: those of the space, the quantum and the steps have 32 bits, and
-- nothing is asked for that isn't known
pub record AreSettings (numbers : List ℕ) : Type 0 where
  pub space : (settings_in numbers).space < 2 ^ 32
  pub quantum : (settings_in numbers).quantum < 2 ^ 32
  pub steps : (settings_in numbers).steps < 2 ^ 32
  pub known : IsKnown numbers

-- a bound that a host gives, where 0 asks for the one that is none
abbrev pub bound_in : (given none : ℕ) → ℕ
bound_in given none = if given == 0 then none else given

-- the most bytes that may be printed
abbrev pub most_output : ℕ → ℕ
most_output output = bound_in output ANY_OUTPUT

-- the numbers of a run that a host asks for; its own thread is the one worker
abbrev pub config_in : Settings → Config
config_in settings = record {
  space = settings.space;
  workers = 1;
  quantum = settings.quantum;
  steps = settings.steps;
  output = most_output settings.output;
  entries = bound_in settings.entries ANY_ENTRIES;
}

-- the space: one that is collected, or memory that grows
abbrev pub space_in : Settings → Space
space_in settings = if settings.plain == 0 then bounded_space settings.space else plain_space

-- an entry of a schedule as numbers, and back
abbrev pub shown_to : Option (ℤ × ℤ) → ℕ × (ℤ × ℤ)
shown_to None = (0, (pos 0, pos 0))
shown_to (Some pair) = (1, pair)

abbrev pub handed_entry : Entry → HostEntry
handed_entry entry = record {
  context = entry.context;
  steps = entry.steps;
  refused = number_of entry.refused;
  shown = (shown_to entry.shown).0;
  used = (shown_to entry.shown).1.0;
  size = (shown_to entry.shown).1.1;
}

abbrev pub given_entry : HostEntry → Entry
given_entry entry = record {
  context = entry.context;
  steps = entry.steps;
  refused = not (entry.refused == 0);
  shown = if entry.shown == 0 then None else Some (entry.used, entry.size);
}

-- what a host's room holds, into which so many of these were written as it takes
abbrev pub handed : {A : Type 0} → (found room : List A) → List A
handed found room = take (length room) found ++ drop (length found) room

-- the code of a run that ended so: the exit status of dpsrun
abbrev pub code_of : Outcome → ℕ
code_of Finished = 0
code_of Faulted = 1
code_of AllWaiting = 3
code_of StepsOut = 4
code_of Memory = 5

-- the code of a call that made no run; none is the code of an outcome
abbrev pub code_of_refusal : Refusal → ℕ
code_of_refusal OutOfRange = 16
code_of_refusal NoRoom = 17
code_of_refusal OtherSchedule = 18
code_of_refusal BadEntry = 19
code_of_refusal Closed = 20
code_of_refusal Open = 21

-- the code of what was told of a run
abbrev pub code_told : Result Outcome Refusal → ℕ
code_told (Ok outcome) = code_of outcome
code_told (Err refusal) = code_of_refusal refusal

-- the rooms of a host, before or after a call
pub record Rooms : Type 0 where
  pub printed : List ℕ
  pub schedule : List HostEntry
  pub counts : List ℕ

-- how much a run came to, in this order: the bytes that it printed, the entries of its schedule,
-- its steps, the collector's cycles and the records that it took
abbrev pub counts_of : Report → List ℕ
counts_of report =
    length report.printed.items ∷ length report.schedule.items
    ∷ min (count_of report.schedule.items) (2 ^ 64 - 1) ∷ report.flips ∷ report.taken ∷ []

-- the host was handed this report, and has its code
pub record IsHanded (report : Report) (old new : Rooms) (code : ℕ) : Type 0 where
  pub printed : new.printed ≡ handed report.printed.items old.printed
  pub schedule : new.schedule ≡ handed (map handed_entry report.schedule.items) old.schedule
  pub counts : new.counts ≡ handed (counts_of report) old.counts
  pub told : code ≡ code_of report.outcome

-- what was made is handed out; where there is no run nothing is, and the code tells why
abbrev pub IsHandedOut : Result Report Refusal → (old new : Rooms) → (code : ℕ) → Type 0
IsHandedOut (Ok report) old new code = IsHanded report old new code
IsHandedOut (Err refusal) old new code = (new ≡ old) × (code ≡ code_of_refusal refusal)

-- a run of a program by these settings, with a budget of so many steps, within its bounds. Asks:
-- what a step asks for that the language doesn't say
abbrev pub IsRunFor : (asks : Status → Around → Scene → Asked) → (program : List ℕ) → Settings
    → (steps : ℕ) → Report → Type 0
IsRunFor asks program settings steps report =
    IsRunIn asks (space_in settings) program steps report
    × IsBounded (bounds_of (config_in settings)) report

-- what is made where a host asks for a run of a program: a number is out of its range, or there is
-- no
-- room to start with; or it is such a run
abbrev pub IsMade : (asks : Status → Around → Scene → Asked) → (program : List ℕ) → Settings
    → Result Report Refusal → Type 0
IsMade asks program settings (Err OutOfRange) = ¬ IsWithin (config_in settings)
IsMade asks program settings (Err NoRoom) = IsWithin (config_in settings)
IsMade asks program settings (Err OtherSchedule) = ⊥
IsMade asks program settings (Err BadEntry) = ⊥
IsMade asks program settings (Err Closed) = ⊥
IsMade asks program settings (Err Open) = ⊥
IsMade asks program settings (Ok report) =
    IsWithin (config_in settings) × IsRunFor asks program settings settings.steps report

-- what is made of the numbers that a host gives: of their settings, where they are some, and else
-- nothing, since one is out of its range
abbrev pub IsMadeOf : {A : Type 0} → (numbers : List ℕ)
    → (of : Settings → Result A Refusal → Type 0) → Result A Refusal → Type 0
IsMadeOf numbers of made = (AreSettings numbers × of (settings_in numbers) made)
    ⊎ ((¬ AreSettings numbers) × (made ≡ Err OutOfRange))

-- a run goes on from a schedule: it begins with it; or memory was wanted on the way
abbrev pub GoesOnFrom : (given : List Entry) → Report → Type 0
GoesOnFrom given report = Begins given report.schedule.items
    ⊎ ((is_memory report.outcome ≡ true) × Begins report.schedule.items given)

-- why a given schedule isn't taken: an entry is none, or there is no room for it
abbrev pub IsNotTaken : (given : List Entry) → Refusal → Type 0
IsNotTaken given OutOfRange = ⊥
IsNotTaken given NoRoom = AreEntries given
IsNotTaken given OtherSchedule = ⊥
IsNotTaken given BadEntry = ¬ AreEntries given
IsNotTaken given Closed = ⊥
IsNotTaken given Open = ⊥

-- what is made where a host asks to go on from a schedule: as where it asks for a run, but with a
-- budget behind the schedule, and the run goes on from it; or there is a run that doesn't; or an
-- entry of the schedule is none
abbrev pub IsGoneOn : (asks : Status → Around → Scene → Asked) → (program : List ℕ) → Settings
    → (given : List Entry) → Result Report Refusal → Type 0
IsGoneOn asks program settings given (Err OutOfRange) = ¬ IsWithin (config_in settings)
IsGoneOn asks program settings given (Err BadEntry) =
    IsWithin (config_in settings) × IsNotTaken given BadEntry
IsGoneOn asks program settings given (Err NoRoom) =
    IsWithin (config_in settings) × IsNotTaken given NoRoom
IsGoneOn asks program settings given (Err OtherSchedule) = IsWithin (config_in settings)
    × AreEntries given
    × ((report : Report)
    × IsRunFor asks program settings (budget_behind given settings.steps) report
    × (¬ GoesOnFrom given report))
IsGoneOn asks program settings given (Err Closed) = ⊥
IsGoneOn asks program settings given (Err Open) = ⊥
IsGoneOn asks program settings given (Ok report) = IsWithin (config_in settings)
    × AreEntries given
    × IsRunFor asks program settings (budget_behind given settings.steps) report
    × GoesOnFrom given report

-- what is made where a host asks for a schedule to be followed: a replay, which prints no more than
-- it may; or an entry of the schedule is none, or there is no room to start with
abbrev pub IsFollowed : (asks : Status → Around → Scene → Asked) → (program : List ℕ) → Settings
    → (given : List Entry) → Result Report Refusal → Type 0
IsFollowed asks program settings given (Err refusal) = IsNotTaken given refusal
IsFollowed asks program settings given (Ok report) =
    AreEntries given
    × IsReplayOf asks program given report
    × (length report.printed.items ≤ most_output settings.output)
