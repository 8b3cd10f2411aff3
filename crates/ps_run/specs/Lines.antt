-- How the program ends, and the lines that standard error has of it.
use Rattle.std.specs.Prelude.{◌≡◌, ◌++◌, ◌-◌, ◌^◌, min, ℕ, Bool, false, List, [], Option, Some, None, codes, if◌then◌else◌}
use Rattle.std.specs.Fmt.{decimal}
use Rattle.ps_language.specs.Schedules.{count_of}
use Rattle.clap.specs.Words.{Text}
use Rattle.ps_vault.specs.declared.reports.Outcome.{Outcome}
use Rattle.ps_vault.specs.declared.reports.Report.{Report}
use Rattle.ps_vault.specs.declared.reports.Outcome.TheVariants.{Finished, Faulted, AllWaiting, StepsOut, Memory}
use Rattle.ps_walks.specs.declared.walks.WalkFault.{WalkFault}
use Rattle.ps_walks.specs.declared.walks.WalkFault.TheVariants as walk
use Rattle.ps_run.specs.declared.places.Places.{Places}
use Rattle.ps_run.specs.declared.places.Places.TheVariants.{Unasked, Told as ToldPlaces, Untold}
use Rattle.ps_run.specs.declared.files.ReadFault.{ReadFault}
use Rattle.ps_run.specs.declared.files.ReadFault.TheVariants as fault
use Rattle.ps_run.specs.declared.statuses.Status.{Status}
use Rattle.ps_run.specs.declared.statuses.Status.TheVariants as status

-- the exit status of a run that ended so
abbrev pub status_of : Outcome → Status
status_of Finished = status.Finished
status_of Faulted = status.Faulted
status_of AllWaiting = status.AllWaiting
status_of StepsOut = status.StepsOut
status_of Memory = status.Memory

-- the exit status as a number
abbrev pub number_of : Status → ℕ
number_of status.Finished = 0
number_of status.Faulted = 1
number_of status.Usage = 2
number_of status.AllWaiting = 3
number_of status.StepsOut = 4
number_of status.Memory = 5

-- the line that standard error has of it
abbrev pub line_of : Status → List ℕ
line_of status.Finished = []
line_of status.Faulted = []
line_of status.Usage = []
line_of status.AllWaiting = codes "dpsrun: all contexts wait\n"
line_of status.StepsOut = codes "dpsrun: steps used up\n"
line_of status.Memory = codes "dpsrun: out of memory\n"

abbrev pub outcome_text : Outcome → List ℕ
outcome_text Finished = codes "finished"
outcome_text Faulted = codes "finished with errors"
outcome_text AllWaiting = codes "all contexts wait"
outcome_text StepsOut = codes "steps used up"
outcome_text Memory = codes "out of memory"

-- ---- what is written

-- a line with a label and a number
abbrev pub number_line : (label : List ℕ) → ℕ → List ℕ
number_line label number = label ++ (decimal number ++ codes "\n")

-- the line that standard error has of an output that didn't take all
abbrev pub lost_line : List ℕ
lost_line = codes "dpsrun: cannot write output\n"

-- the line that it has of a record that wasn't written
abbrev pub unwritten_line : Text → List ℕ
unwritten_line name = codes "dpsrun: cannot write " ++ (name ++ codes "\n")

-- the lines of the counts of a run; steps are told up to 18,446,744,073,709,551,615
abbrev pub count_lines : Report → List ℕ
count_lines report =
    number_line (codes "flips ") report.flips
    ++ (number_line (codes "taken ") report.taken
    ++ number_line (codes "steps ") (min (count_of report.schedule.items) (2 ^ 64 - 1)))

-- where they are asked for
abbrev pub counts_of : (stats : Bool) → Report → List ℕ
counts_of stats report = if stats then count_lines report else []

-- the line that standard error has of a run that isn't made again
abbrev pub untold_line : WalkFault → List ℕ
untold_line walk.Memory = codes "dpsrun: no places: out of memory\n"
untold_line walk.TooLarge =
    codes "dpsrun: no places: the run is too large to be made again\n"

-- the line that it has of one whose picture isn't drawn
abbrev pub undrawn_line : WalkFault → List ℕ
undrawn_line walk.Memory = codes "dpsrun: no timeline: out of memory\n"
undrawn_line walk.TooLarge =
    codes "dpsrun: no timeline: the run is too large to be made again\n"

-- the line that it has of one that would be written over the run's schedule
abbrev pub over_schedule_line : (name : Text) → List ℕ
over_schedule_line name =
    codes "dpsrun: the picture would write over the schedule in " ++ (name ++ codes "\n")

-- what is told of the places of its errors
abbrev pub told_of : Places → List ℕ
told_of Unasked = []
told_of (ToldPlaces text) = text.items
told_of (Untold why) = untold_line why

-- what may be told of the places of its errors: nothing, where they are not asked for, or each
-- context finished without a line of an error
pub record ArePlaces (asked : Bool) (report : Report) (places : List ℕ) : Type 0 where
  pub unasked : asked ≡ false → places ≡ []
  pub none : report.outcome ≡ Finished → places ≡ []

-- ---- files that are not read

-- what is said of such a file; of memory that was wanted for it there is a line of its own
abbrev pub reason_of : ReadFault → Option (List ℕ)
reason_of fault.NotFound = Some (codes "does not exist")
reason_of fault.Folder = Some (codes "is a folder")
reason_of fault.Nameless = Some (codes "is an empty name")
reason_of fault.Denied = Some (codes "may not be read")
reason_of fault.TooLong = Some (codes "is longer than 16777215 bytes")
reason_of fault.NoRead = Some (codes "can't be opened or read")
reason_of fault.Memory = None

-- the status of a run whose file was not read
abbrev pub status_for : Option (List ℕ) → Status
status_for None = status.Memory
status_for (Some reason) = status.Usage

abbrev pub unread : ReadFault → Status
unread why = status_for (reason_of why)

-- the lines that standard error has of it: why, and that it was not read
abbrev pub reason_line : (reason name : List ℕ) → List ℕ
reason_line reason name = codes "dpsrun: '" ++ (name ++ (codes "' " ++ (reason ++ codes "\n")))

abbrev pub lines_for : Option (List ℕ) → (name : Text) → List ℕ
lines_for None name = line_of status.Memory
lines_for (Some reason) name =
    reason_line reason name ++ (codes "dpsrun: cannot read " ++ (name ++ codes "\n"))

abbrev pub unread_lines : ReadFault → (name : Text) → List ℕ
unread_lines why name = lines_for (reason_of why) name

-- ---- schedules, runs and states

-- the line that standard error has of a bad line of a schedule
abbrev pub bad_line : ℕ → List ℕ
bad_line line = number_line (codes "dpsrun: bad schedule line ") line

-- the lines of standard error: how many runs there were, and how many endings
abbrev pub ending_lines : (runs count : ℕ) → List ℕ
ending_lines runs count =
    number_line (codes "runs ") runs ++ number_line (codes "endings ") count

-- the line that standard error has of a step that a schedule of so many hasn't
abbrev pub past_end_line : (step steps : ℕ) → List ℕ
past_end_line step steps = codes "dpsrun: no step " ++ (decimal step
    ++ number_line (codes " in a schedule of ") steps)

-- the line that it has of a state of a run that isn't made again
abbrev pub too_large_line : List ℕ
too_large_line = codes "dpsrun: the run is too large to be made again\n"
