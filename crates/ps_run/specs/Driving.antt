-- What a run from a command line is, its exit status, and what is written.
use Rattle.std.specs.Prelude.{◌≡◌, ◌≢◌, ◌<◌, ◌≤◌, ◌+◌, ◌⊎◌, ◌++◌, ◌-◌, ◌^◌, ⊤, drop, min, take, unwrap_or, ℕ, Bool, true, false, All, List, [], ◌∷◌, slice_index_or, Option, Some, None, IfSome, IsSome, map, option_map, option_and_then, length, codes}
use Rattle.std.specs.Option.{option_or}
use Rattle.std.specs.Fmt.{decimal}
use Rattle.std.specs.Io.KnownBytes.{Appends}
use Rattle.ps_language.specs.declared.schedules.Entry.{Entry}
use Rattle.ps_language.specs.Effect.{Around, Scene}
use Rattle.ps_language.specs.Schedules.{count_of, moves}
use Rattle.ps_language.specs.World as world
use Rattle.ps_language.specs.Worlds as worlds
use Rattle.ps_ops_state.specs.Acts as acts
use Rattle.ps_mem.specs.Heap.{Space}
use Rattle.ps_run_options.specs.declared.options.Exploration.TheVariants.{ByChance, EachOrder, EachWorld}
use Rattle.ps_run_options.specs.declared.options.OrderBounds.{OrderBounds}
use Rattle.ps_run_options.specs.declared.views.View.{View}
use Rattle.ps_run_options.specs.declared.views.View.TheVariants.{State, Steps}
use Rattle.ps_run_options.specs.Views.{last_step}
use Rattle.ps_run_schedules.specs.Texts.{AreEntries, IsBadAt, text_of}
use Rattle.ps_places.specs.declared.origins.Origin.{Origin}
use Rattle.ps_states.specs.States.{state_text}
use Rattle.clap.specs.Words.{Text}
use Rattle.ps_vault.specs.declared.reports.Report.{Report}
use Rattle.ps_vault.specs.Endings.{AreEndings}
use Rattle.ps_vault.specs.Order.{InOrder}
use Rattle.ps_vault.specs.Reports.{IsBounded, IsReplayOf, IsRunIn, IsUncollected, UnderPart, WithBudget, are_ordinary}
use Rattle.ps_vault.specs.Screens.{AppendsPart}
use Rattle.ps_run.specs.Orders.{AreOrderLines, AreOrders, Orders, report_of}
use Rattle.ps_run.specs.Worlds.{AreWorlds, Worlds, way_report, world_lines}
use Rattle.ps_walks.specs.StepLines.{AreStepLines}
use Rattle.ps_walks.specs.Timelines.{IsTimelineOf}
use Rattle.ps_walks.specs.Walks.{world_behind}
use Rattle.ps_walks.specs.declared.walks.WalkFault.{WalkFault}
use Rattle.ps_timelines.specs.declared.pictures.Timeline.{Timeline}
use Rattle.ps_timelines.specs.Pictures.{picture}
use Rattle.ps_run.specs.Telling.{Tells, Told}
use Rattle.ps_run.specs.declared.files.ReadFault.{ReadFault}
use Rattle.ps_run.specs.declared.files.ReadFault.TheVariants as fault
use Rattle.ps_run.specs.declared.statuses.Status.{Status}
use Rattle.ps_run.specs.declared.statuses.Status.TheVariants as status
pub use Rattle.ps_run.specs.Lines.{status_of, number_of, line_of, number_line, lost_line}
pub use Rattle.ps_run.specs.Lines.{unwritten_line, count_lines, counts_of, untold_line, told_of}
pub use Rattle.ps_run.specs.Lines.{ArePlaces, reason_of, status_for, unread, reason_line}
pub use Rattle.ps_run.specs.Lines.{lines_for, unread_lines, bad_line, ending_lines, past_end_line}
pub use Rattle.ps_run.specs.Lines.{too_large_line, outcome_text, undrawn_line}
pub use Rattle.ps_run.specs.Lines.{over_schedule_line}
pub use Rattle.ps_run.specs.Asked.{Asked, most_output, most_entries, AreAsked, most_asked}
pub use Rattle.ps_run.specs.Asked.{space_of, Names, names_in, config_in, asked_of, most_endings}
pub use Rattle.ps_run.specs.Asked.{records_in, records_of, names_of, AreOutOfRange}

-- ---- a run of a program

-- how many bytes a program's file may have
abbrev pub most_program_bytes : ℕ
most_program_bytes = 16777215

-- what files hold by their names, as far as it is known
abbrev pub Contents : Type 0
Contents = Text → Option (List ℕ)

-- the program's bytes, as far as they are known: the text that is given, or those of its file
abbrev pub known_program : Contents → Names → Option (List ℕ)
known_program contents names =
    option_or names.text (option_and_then contents names.file)

-- what it is called where it can't be read
abbrev pub program_name : Names → Text
program_name names = unwrap_or names.file (codes "-e")

-- the schedule to follow, if one is named: that of its file's bytes, as far as they are known
abbrev pub IsGiven : Contents → Option Text → Option (List Entry) → Type 0
IsGiven contents None None = ⊤
IsGiven contents (Some name) (Some given) = AreEntries given
    × IfSome (contents name) (λ bytes. text_of given ≡ bytes)
IsGiven contents _ _ = ⊥

-- a file holds these bytes, if one is named
abbrev pub IsHeldIn : Contents → Option Text → (bytes : List ℕ) → Type 0
IsHeldIn contents None bytes = ⊤
IsHeldIn contents (Some name) bytes = IfSome (contents name) (λ known. known ≡ bytes)

-- the text of a schedule
abbrev pub IsRecorded : Contents → Option Text → List Entry → Type 0
IsRecorded contents recorded schedule = IsHeldIn contents recorded (text_of schedule)

-- asks: what a step asks for that the language doesn't say
module _ (asks : world.Status → Around → Scene → acts.Asked) (program : List ℕ) where
  -- a run with a budget of steps, in a memory of this space, whose schedule has a text that can be
  -- read again
  pub record IsRecordable (space : Space) (steps : ℕ) (report : Report) : Type 0 where
    pub run : IsRunIn asks space program steps report
    pub entries : AreEntries report.schedule.items

  -- over memory that is never collected no step is refused, and there are passes with turns of at
  -- most a quantum
  pub record IsPlain (quantum : ℕ) (report : Report) : Type 0 where
    pub ordinary : are_ordinary (moves report.schedule.items) ≡ true
    pub order : InOrder quantum (worlds.starting_world program) (moves report.schedule.items)
    pub uncollected : IsUncollected report

  -- a run with a budget of steps, in a space that is collected or over plain memory, which grows;
  -- or one under a schedule that is given. Cut: with fewer steps, or under a beginning of it
  abbrev pub IsMade : (cut : Bool) → Option (List Entry) → Asked → Report → Type 0
  IsMade cut None asked report =
      WithBudget cut asked.steps (λ budget. IsRecordable (space_of asked) budget report)
      × (asked.plain ≡ true → IsPlain asked.quantum report)
  IsMade cut (Some given) asked report =
      UnderPart cut given (λ part. IsReplayOf asks program part report)

-- no more bytes were printed than may be, nor does its schedule have more entries; one that is
-- given
-- has as many as it has
abbrev pub IsBoundedAs : Option (List Entry) → Asked → Report → Type 0
IsBoundedAs None asked report = IsBounded (most_asked asked) report
IsBoundedAs (Some given) asked report = length report.printed.items ≤ most_output asked.output

-- these are the program's bytes, as far as they are known
abbrev pub IsProgramIn : Contents → Names → List ℕ → Type 0
IsProgramIn contents names program =
    IfSome (known_program contents names) (λ bytes. program ≡ bytes)
    × (length program ≤ most_program_bytes)

-- what is written lets files be that hold the program
abbrev pub KeepsProgram : (old new : Contents) → (program : List ℕ) → Type 0
KeepsProgram old new program = (name : Text) → old name ≡ Some program → new name ≡ Some program

-- a run of the program, under the schedule of a file where one is named. Cut: its output failed
-- while it was streamed
pub record IsFileRun (asks : world.Status → Around → Scene → acts.Asked) (contents : Contents)
    (names : Names) (asked : Asked) (cut : Bool) (report : Report) : Type 0 where
  pub program : List ℕ
  pub is_program : IsProgramIn contents names program
  pub given : Option (List Entry)
  pub is_given : IsGiven contents names.replayed given
  pub run : IsMade asks program cut given asked report
  pub bounded : IsBoundedAs given asked report
  pub streamed : cut ≡ true → asked.streamed ≡ true

-- what outputs and files hold before and after, where it is known; flushed: whether the first
-- output was flushed after its last write; unwritten: whether a write of a file has failed
pub record Outputs : Type 0 where
  pub out_old : Option (List ℕ)
  pub out_new : Option (List ℕ)
  pub err_old : Told
  pub err_new : Told
  pub files_old : Contents
  pub files_new : Contents
  pub flushed : Bool
  pub unwritten : Bool

-- what standard error has where the record that is named isn't made: one line, and no counts. A
-- write of a file has failed, or memory was wanted for its text
abbrev pub TellsUnwritten : (unwritten : Bool) → Option Text → Status → (err_old err_new : Told)
    → Type 0
TellsUnwritten unwritten (Some name) status.Usage err_old err_new =
    (unwritten ≡ true) × Tells err_old err_new (unwritten_line name)
TellsUnwritten unwritten (Some name) status.Memory err_old err_new =
    Tells err_old err_new (line_of status.Memory)
TellsUnwritten unwritten recorded told err_old err_new = ⊥

-- no record was made, though one is asked for; where memory was wanted no file has changed
abbrev pub IsUnrecorded : Option Text → Status → Outputs → Type 0
IsUnrecorded recorded told outputs =
    TellsUnwritten outputs.unwritten recorded told outputs.err_old outputs.err_new
    × (told ≡ status.Memory → outputs.files_new ≡ outputs.files_old)

-- the output took a part alone of what was printed: that is told and nothing else, no file has
-- changed, and the status tells a fault
abbrev pub IsLost : (printed : List ℕ) → Status → Outputs → Type 0
IsLost printed told outputs =
    (told ≡ status.Usage)
    × AppendsPart outputs.out_old outputs.out_new printed
    × (outputs.files_new ≡ outputs.files_old)
    × Tells outputs.err_old outputs.err_new lost_line

-- what was printed is lost in part; or the run was not cut, and the output took all and was
-- flushed,
-- and then the record was made where one is asked for, the places of errors were told, and the
-- status is that of the outcome
abbrev pub IsWritten : (cut : Bool) → (recorded : Option Text) → (places : List ℕ)
    → (stats : Bool) → Report → Status → Outputs → Type 0
IsWritten cut recorded places stats report told outputs =
    IsLost report.printed.items told outputs
    ⊎ ((cut ≡ false) × Appends outputs.out_old outputs.out_new report.printed.items
    × (outputs.flushed ≡ true)
    × (IsUnrecorded recorded told outputs
    ⊎ ((told ≡ status_of report.outcome)
    × IsRecorded outputs.files_new recorded report.schedule.items
    × Tells outputs.err_old outputs.err_new
    (places ++ (counts_of stats report ++ line_of told)))))

-- ---- its picture

-- the picture of a run: of a timeline that is that of its steps
pub record IsPicture (file program : List ℕ) (report : Report) (text : List ℕ) : Type 0 where
  pub told : Timeline
  pub is_told : IsTimelineOf file (outcome_text report.outcome) (worlds.starting_world program)
      (moves report.schedule.items) told
  pub is_text : text ≡ picture told

-- what a run came to before its picture is drawn: its status, what standard error has, files, and
-- whether a write of one has failed
pub record Ended : Type 0 where
  pub status : Status
  pub err : Told
  pub files : Contents
  pub unwritten : Bool

-- the file of this name has the text of the schedule
abbrev pub HoldsSchedule : Contents → Text → (schedule : List Entry) → Type 0
HoldsSchedule contents name schedule =
    IfSome (contents name) (λ bytes. bytes ≡ text_of schedule)

-- the picture is written to a file that didn't have the schedule, and nothing is told
pub record IsPictureHeld (name : Text) (IsPicture : List ℕ → Type 0) (schedule : List Entry)
    (old new : Ended) : Type 0 where
  pub same : new.status ≡ old.status
  pub told : new.err ≡ old.err
  pub writes : new.unwritten ≡ old.unwritten
  pub apart : IfSome (old.files name) (λ bytes. bytes ≢ text_of schedule)
  pub text : List ℕ
  pub is_picture : IsPicture text
  pub holds : IsHeldIn new.files (Some name) text

-- it isn't, and that is told: its file has the schedule, and no file has changed; or a write has
-- failed
abbrev pub IsPictureRefused : (name : Text) → (schedule : List Entry) → (old new : Ended) → Type 0
IsPictureRefused name schedule old new = (new.status ≡ status.Usage)
    × (((new.files ≡ old.files) × HoldsSchedule old.files name schedule
    × Tells old.err new.err (over_schedule_line name))
    ⊎ ((new.unwritten ≡ true) × Tells old.err new.err (unwritten_line name)))

-- it isn't drawn: no file has changed, and why is told
abbrev pub IsUndrawn : (old new : Ended) → Type 0
IsUndrawn old new = (new.status ≡ old.status) × (new.files ≡ old.files)
    × (why : WalkFault) × Tells old.err new.err (undrawn_line why)

-- what becomes of the picture that is asked for, where one is, and of nothing else
abbrev pub IsPictureWritten : (drawn : Option Text) → (IsPicture : List ℕ → Type 0)
    → (schedule : List Entry) → (old new : Ended) → Type 0
IsPictureWritten None IsPicture schedule old new = new ≡ old
IsPictureWritten (Some name) IsPicture schedule old new =
    IsPictureHeld name IsPicture schedule old new
    ⊎ (IsPictureRefused name schedule old new ⊎ IsUndrawn old new)

-- ---- many runs

-- the name of the record of an ending, by its number from 1 on
abbrev pub numbered : Text → ℕ → Text
numbered prefix number = prefix ++ (codes "." ++ decimal number)

-- the files that are written: that of the record, or of many runs those of their endings' records,
-- by numbers from 1 to how many there are
abbrev pub IsRecordName : (recorded : Option Text) → (many : Option ℕ) → Text → Type 0
IsRecordName None many name = ⊥
IsRecordName (Some recorded) None name = name ≡ recorded
IsRecordName (Some prefix) (Some count) name =
    (number : ℕ) × (1 ≤ number) × (number ≤ count) × (name ≡ numbered prefix number)

-- and that of the picture
abbrev pub IsWrittenName : (recorded drawn : Option Text) → (many : Option ℕ) → Text → Type 0
IsWrittenName recorded drawn many name = IsRecordName recorded many name ⊎ (drawn ≡ Some name)

-- files hold the texts of the schedules of the first so many endings, if their names are asked for
abbrev pub AreRecorded : Contents → Option Text → List Report → (count : ℕ) → Type 0
AreRecorded contents recorded endings count =
    (place : ℕ) (default : Report) → place < count
    → IsRecorded contents (option_map (λ prefix. numbered prefix (place + 1)) recorded)
    (slice_index_or endings place default).schedule.items

-- what the first of them printed
abbrev pub first_printed : List Report → List ℕ
first_printed [] = []
first_printed (ending ∷ rest) = ending.printed.items

-- the exit status of runs that ended so: 0 where all ended alike, else 1
abbrev pub agreement : List Report → Status
agreement (ending ∷ []) = status.Finished
agreement _ = status.Faulted

-- the record of an ending isn't made, and no more are; those before it are
abbrev pub AreUnrecorded : Option Text → List Report → Status → Outputs → Type 0
AreUnrecorded recorded endings told outputs = (place : ℕ) × (place < length endings)
    × AreRecorded outputs.files_new recorded endings place
    × TellsUnwritten outputs.unwritten
    (option_map (λ prefix. numbered prefix (place + 1)) recorded) told
    outputs.err_old outputs.err_new

-- as of one run (IsWritten), with a record for each ending; lines: what is told of them
abbrev pub AreWritten : (recorded : Option Text) → List Report → (lines : List ℕ) → Status
    → Outputs → Type 0
AreWritten recorded endings lines told outputs =
    IsLost (first_printed endings) told outputs
    ⊎ (Appends outputs.out_old outputs.out_new (first_printed endings)
    × (outputs.flushed ≡ true)
    × (AreUnrecorded recorded endings told outputs
    ⊎ ((told ≡ agreement endings) × AreRecorded outputs.files_new recorded endings (length endings)
    × Tells outputs.err_old outputs.err_new lines)))

-- ---- a state, or steps

-- the text of what is to be told of the run under this schedule. Origins: where tokens begin that
-- made objects
abbrev pub IsViewOf : (file program : List ℕ) → (given : List Entry) → View → (text : List ℕ)
    → Type 0
IsViewOf file program given (State step) text = (origins : List Origin) × (text ≡ state_text
    (record { file = file; program = program; origins = origins })
    (world_behind program given step) step (min (count_of given) (2 ^ 64 - 1)))
IsViewOf file program given (Steps first last) text = AreStepLines file (first - 1)
    (world_behind program given (first - 1))
    (take (last - (first - 1)) (drop (first - 1) (moves given))) text

-- it took the place of what a run prints: the output took all of it and was flushed, and nothing
-- was told; or a part of it is lost. No file has changed
abbrev pub IsShown : (text : List ℕ) → Status → Outputs → Type 0
IsShown text told outputs = IsLost text told outputs
    ⊎ ((told ≡ status.Finished) × Appends outputs.out_old outputs.out_new text
    × (outputs.flushed ≡ true) × (outputs.files_new ≡ outputs.files_old)
    × (outputs.err_new ≡ outputs.err_old))

-- ---- faults

-- the schedule has fewer steps than those of which something is to be told: that is told
abbrev pub IsPastEnd : Contents → Names → (at : Option View) → (err_old err_new : Told) → Type 0
IsPastEnd contents names None err_old err_new = ⊥
IsPastEnd contents names (Some view) err_old err_new = (given : List Entry)
    × IsGiven contents names.replayed (Some given) × (count_of given < last_step view)
    × Tells err_old err_new (past_end_line (last_step view) (count_of given))

-- a program's bytes are more than one may have
abbrev pub IsTooLong : (known : Option (List ℕ)) → Type 0
IsTooLong known = IfSome known (λ bytes. most_program_bytes < length bytes)

-- no program can be read for its length, which is told
abbrev pub HasNoProgram : Contents → Names → (err_old err_new : Told) → Type 0
HasNoProgram contents names err_old err_new =
    IfSome (known_program contents names) (λ bytes. (most_program_bytes < length bytes)
    × Tells err_old err_new (unread_lines fault.TooLong (program_name names)))

-- no schedule can be read of the file that is named: it has a bad line, which is told
abbrev pub HasNoSchedule : Contents → Option Text → (err_old err_new : Told) → Type 0
HasNoSchedule contents None err_old err_new = ⊥
HasNoSchedule contents (Some name) err_old err_new =
    IfSome (contents name) (λ bytes. (line : ℕ) × IsBadAt bytes line
    × Tells err_old err_new (bad_line line))

-- a record or a picture would be written over a file that holds the program
pub record WritesOver (contents : Contents) (names : Names) (many : Option ℕ) : Type 0 where
  pub program : List ℕ
  pub is_program : IsProgramIn contents names program
  pub name : Text
  pub is_written : IsWrittenName names.recorded names.drawn many name
  pub holds : IfSome (contents name) (λ bytes. bytes ≡ program)

-- a fault of what the files hold: of the program's, of the schedule's, or of the record's
abbrev pub IsFileFault : Contents → Names → (many : Option ℕ) → (err_old err_new : Told) → Type 0
IsFileFault contents names many err_old err_new = HasNoProgram contents names err_old err_new
    ⊎ (HasNoSchedule contents names.replayed err_old err_new ⊎ WritesOver contents names many)

-- a file that is named was not read for this fault, which is told
pub record IsUnread (names : Names) (why : ReadFault) (told : Status) (err_old err_new : Told)
    : Type 0 where
  pub is : told ≡ unread why
  pub name : Text
  pub is_named : (names.file ≡ Some name) ⊎ (names.replayed ≡ Some name)
  pub tells : Tells err_old err_new (unread_lines why name)

module _ (asks : world.Status → Around → Scene → acts.Asked) (names : Names)
    (IsAsked : Asked → Type 0) where
  -- a run that was written
  pub record IsRunWritten (told : Status) (outputs : Outputs) : Type 0 where
    pub asked : Asked
    pub is_asked : IsAsked asked
    pub is_single : asked.explored ≡ None
    pub is_whole : asked.at ≡ None
    pub cut : Bool
    pub report : Report
    pub run : IsFileRun asks outputs.files_old names asked cut report
    pub places : List ℕ
    pub are_places : ArePlaces asked.places report places
    pub ended : Ended
    pub written : IsWritten cut names.recorded places asked.stats report ended.status
        (record outputs {
          err_new = ended.err;
          files_new = ended.files;
          unwritten = ended.unwritten;
        })
    pub drawn : IsPictureWritten names.drawn (IsPicture (program_name names) run.program report)
        report.schedule.items ended
        (record {
          status = told;
          err = outputs.err_new;
          files = outputs.files_new;
          unwritten = outputs.unwritten;
        })
    pub others : (name : Text) → names.drawn ≢ Some name
        → outputs.files_new name ≡ ended.files name
    pub keeps : KeepsProgram outputs.files_old outputs.files_new run.program

  -- many runs of the program, under schedules that can be read again, that were written
  pub record AreRunsWritten (told : Status) (outputs : Outputs) : Type 0 where
    pub asked : Asked
    pub is_asked : IsAsked asked
    pub runs : ℕ
    pub are_many : asked.explored ≡ Some (ByChance runs)
    pub program : List ℕ
    pub is_program : IsProgramIn outputs.files_old names program
    pub endings : List Report
    pub are : AreEndings asks program asked.steps (most_asked asked) runs endings
    pub entries : All (λ ending. AreEntries ending.schedule.items) endings
    pub written : AreWritten names.recorded endings (ending_lines runs (length endings)) told
        outputs
    pub keeps : KeepsProgram outputs.files_old outputs.files_new program

  -- the program's orders with few cuts, each told by how it ends, that were written
  pub record AreOrdersWritten (told : Status) (outputs : Outputs) : Type 0 where
    pub asked : Asked
    pub is_asked : IsAsked asked
    pub bounds : OrderBounds
    pub are_all : asked.explored ≡ Some (EachOrder bounds)
    pub program : List ℕ
    pub is_program : IsProgramIn outputs.files_old names program
    pub orders : Orders
    pub are : AreOrders program asked.steps bounds orders
    pub lines : List ℕ
    pub are_lines : AreOrderLines (program_name names) program bounds orders lines
    pub written : AreWritten names.recorded (map report_of orders.endings) lines told outputs
    pub keeps : KeepsProgram outputs.files_old outputs.files_new program

  -- the program's orders by worlds, each ending told, that were written
  pub record AreWorldsWritten (told : Status) (outputs : Outputs) : Type 0 where
    pub asked : Asked
    pub is_asked : IsAsked asked
    pub most : ℕ
    pub are_all : asked.explored ≡ Some (EachWorld most)
    pub program : List ℕ
    pub is_program : IsProgramIn outputs.files_old names program
    pub found : Worlds
    pub are : AreWorlds program most found
    pub written : AreWritten names.recorded (map way_report found.endings) (world_lines found) told
        outputs
    pub keeps : KeepsProgram outputs.files_old outputs.files_new program

  -- a run that is streamed has begun: the output has a beginning of what the program prints
  -- under some schedule
  pub record IsBegun (outputs : Outputs) : Type 0 where
    pub asked : Asked
    pub is_asked : IsAsked asked
    pub is_single : asked.explored ≡ None
    pub is_streamed : asked.streamed ≡ true
    pub program : List ℕ
    pub is_program : IsProgramIn outputs.files_old names program
    pub schedule : List Entry
    pub part : AppendsPart outputs.out_old outputs.out_new (worlds.printed program schedule)

  -- a state, or steps, of the run under the schedule that is named were written, as of worlds of
  -- the program that were never collected
  pub record IsViewWritten (told : Status) (outputs : Outputs) : Type 0 where
    pub asked : Asked
    pub is_asked : IsAsked asked
    pub view : View
    pub is_at : asked.at ≡ Some view
    pub program : List ℕ
    pub is_program : IsProgramIn outputs.files_old names program
    pub given : List Entry
    pub is_given : IsGiven outputs.files_old names.replayed (Some given)
    pub within : last_step view ≤ count_of given
    pub text : List ℕ
    pub is_text : IsViewOf (program_name names) program given view text
    pub written : IsShown text told outputs

  -- the run of that schedule can't be made again in memory that is never collected: that is told
  pub record IsViewUntold (told : Status) (outputs : Outputs) : Type 0 where
    pub asked : Asked
    pub is_asked : IsAsked asked
    pub is_at : IsSome asked.at
    pub is_memory : told ≡ status.Memory
    pub printed : outputs.out_new ≡ outputs.out_old
    pub files : outputs.files_new ≡ outputs.files_old
    pub tells : Tells outputs.err_old outputs.err_new too_large_line

  -- a fault of the words or a file, or want of memory before the end of a run: nothing is written,
  -- but what was streamed; else a run, or many, or a view of one. IsFault: of the words or a file
  abbrev pub IsDriven : (IsFault : Type 0) → (told : Status) → Outputs → Type 0
  IsDriven IsFault told outputs =
      ((told ≡ status.Usage) × (outputs.out_new ≡ outputs.out_old)
      × (outputs.files_new ≡ outputs.files_old) × IsFault)
      ⊎ (((told ≡ status.Memory) × ((outputs.out_new ≡ outputs.out_old) ⊎ IsBegun outputs)
      × (outputs.files_new ≡ outputs.files_old)
      × Tells outputs.err_old outputs.err_new (line_of status.Memory))
      ⊎ (IsRunWritten told outputs
      ⊎ (AreRunsWritten told outputs ⊎ (AreOrdersWritten told outputs
      ⊎ (AreWorldsWritten told outputs
      ⊎ (IsViewWritten told outputs ⊎ IsViewUntold told outputs))))))
