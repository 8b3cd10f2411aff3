-- When a step, or a part of one, went as the definitions say (PLRM2, 3.5, 3.10).
use Rattle.std.specs.Prelude.{◌≡◌, ◌≢◌, ℕ, suc, ◌+◌, ◌<◌, Bool, true, false, IsTrue, Option, Some}
use Rattle.std.specs.Prelude.{None, is_some, unwrap_or, IfOk, OnErr, List, [], ◌∷◌, length}
use Rattle.std.specs.Prelude.{AllPairs, Result, Ok, Err, if◌then◌else◌}
use Rattle.ps_language.specs.declared.errors.ErrorName.{ErrorName}
use Rattle.ps_language.specs.declared.errors.ErrorName.TheVariants.{VmError, Undefined}
use Rattle.ps_language.specs.declared.operators.Operator.{Operator}
use Rattle.ps_language.specs.Value.{Value, Dictionary, Store}
use Rattle.ps_language.specs.World.{Cause, for_stop, Frame, Status, running, unwinding, finished}
use Rattle.ps_language.specs.World.{Machine}
use Rattle.ps_language.specs.Access.{dictionary_at}
use Rattle.ps_language.specs.Objects.{lacks_room}
use Rattle.ps_language.specs.Effect.{Scene, Call, Deed, Calling}
use Rattle.ps_language.specs.Outcome.{Outcome, fails}
use Rattle.ps_language.specs.Scan.{scan}
use Rattle.ps_language.specs.Rows.{Row, world_row, row_of}
use Rattle.ps_language.specs.StepValues.{Turn, command_of, goes, tries, breaks, errs}
use Rattle.ps_language.specs.StepValues.{asks as leaves_to}
use Rattle.ps_language.specs.StepErrors.{with_error, has_new_error, error_line}
use Rattle.ps_language.specs.Machines.{with_scene, settled, Reached, reaches, leaves_to_world}
use Rattle.ps_language.specs.Machines.{after_turn}
use Rattle.ps_word.specs.declared.words.Word.{Word}
use Rattle.ps_mem.specs.Heap.{Heap, Grants, birth_at}
use Rattle.ps_mem.specs.Keeps.{Keeps}
use Rattle.ps_mem.specs.Meaning.{value_of}
use Rattle.ps_mem.specs.Shows.{IsSound, IsWithin, AreWithin, Shows}
use Rattle.ps_ops_operands.specs.declared.failure.NotMade.{NotMade as Reason}
use Rattle.ps_ops_operands.specs.declared.failure.NotMade.TheVariants.{LogFull, LogClosed}
use Rattle.ps_ops_operands.specs.Changes.{KeepsLogsWithin, most_records, spent}
use Rattle.ps_ops_operands.specs.FirstNames.{BeginWithFirst}
use Rattle.ps_ops_control.specs.declared.frames.Frame.{Frame as FrameHere}
use Rattle.ps_ops_control.specs.Frames.{AreFramesWithin}
use Rattle.ps_ops_control.specs.Turns.{cause_of}
use Rattle.ps_ops_state.specs.declared.lent.Attempt.{Attempt}
use Rattle.ps_ops_state.specs.Lent.{Lent, Rooms, scene_of, IsShown, IsGood}
use Rattle.ps_ops_state.specs.Acts.{Asked, Needs, nothing_needed, no_rooms, names_formed, needs_between}
use Rattle.ps_ops_state.specs.Acts.{IsReason, Lasts, IsSame, Stays}
use Rattle.ps_step_outcome.specs.declared.world_operators.WorldOperator.{WorldOperator}
use Rattle.ps_step_outcome.specs.WorldOperators.{operator_of}
use Rattle.ps_step_outcome.specs.declared.turned.Turned.{Turned}
use Rattle.ps_step_outcome.specs.declared.turned.Turned.TheVariants.{Goes, Calls, Breaks, Ends}

-- ---- errors

-- every store that was shown under names met once each is shown with the entries of the error, and
-- no string is shorter
pub record IsNoted (error : ErrorName) (command : Word) (address : ℕ) (old new : Heap) : Type 0
  where
    pub meets : (names : List (List ℕ)) (s : Store) → BeginWithFirst names
        → AllPairs (λ one later. one ≢ later) names → Shows old names s
        → IsWithin (birth_at old) names s command
        → Shows new names
        (with_error error (value_of (birth_at old) names command) (birth_at old address) s)
        × Lasts s
        (with_error error (value_of (birth_at old) names command) (birth_at old address) s)

-- the log of a slot doesn't take so many records
abbrev pub IsUnlogged : (count slot : ℕ) → (asked left : Grants) → Reason → Type 0
IsUnlogged count slot asked left LogFull =
    (asked.closed slot ≡ false) × (left.records slot < count)
IsUnlogged count slot asked left LogClosed = IsTrue (asked.closed slot)
IsUnlogged count slot asked left reason = ⊥

-- A note takes no memory. It was made; or it was not, for its records alone, and nothing has
-- changed but what was granted
abbrev pub NotesAs : ErrorName → (command : Word) → (slot address : ℕ) → Result Unit Reason
    → (old new : Heap) → (asked left : Grants) → Type 0
NotesAs error command slot address (Ok _) old new asked left =
    IsNoted error command address old new
NotesAs error command slot address (Err LogFull) old new asked left =
    (asked.closed slot ≡ false) × (left.records slot < most_records) × (new ≡ old)
NotesAs error command slot address (Err LogClosed) old new asked left =
    IsTrue (asked.closed slot) × (new ≡ old)
NotesAs error command slot address (Err reason) old new asked left = ⊥

pub record Notes (error : ErrorName) (command : Word) (slot address : ℕ)
    (result : Result Unit Reason) (old new : Heap) (asked left : Grants) : Type 0 where
  pub did : NotesAs error command slot address result old new asked left
  pub sound : IsSound new
  pub keeps : Keeps old new
  pub logs : KeepsLogsWithin (spent result most_records) asked left slot

-- ---- the end of a context

-- an unwinding for stop that leaves no frame prints the line of a new error, and changes one entry
abbrev pub is_told : List Frame → Dictionary → Bool
is_told [] d = has_new_error d
is_told (frame ∷ frames) d = false

-- its bytes
abbrev pub last_line : List Frame → Store → Dictionary → List ℕ
last_line frames store d = if is_told frames d then error_line store d else []

-- ---- what a turn asks for

-- of an error: its note, and the line of the context's end
abbrev pub error_needs : Rooms → (birth : ℕ) → (before : Scene) → ErrorName → (command : Value)
    → (kept : Scene) → Needs
error_needs scratch birth before error command kept =
    let after : Store = with_error error command birth kept.store in
    record {
      bytes = length (last_line kept.frames after (dictionary_at after birth));
      names = names_formed before kept;
      records = most_records;
      words = 0;
      births = 0;
      scratch = scratch;
    }

-- of an unwinding: what is asked for beside, and at the context's end its line, with a record for
-- its entry
abbrev pub break_needs : Asked → (birth : ℕ) → Cause → Scene → Needs
break_needs asked birth for_stop scene =
    let d : Dictionary = dictionary_at scene.store birth in
    record nothing_needed {
      bytes = length (last_line scene.frames scene.store d);
      records = if is_told scene.frames d then suc asked.records else asked.records;
      scratch = asked.scratch;
    }
break_needs asked birth cause scene =
    record nothing_needed { records = asked.records; scratch = asked.scratch }

-- by the turn; asked: what the language doesn't say; birth: of $error
abbrev pub turn_needs : (refused : Bool) → Asked → (birth : ℕ) → (before : Scene) → Turn → Needs
turn_needs refused asked birth before (goes scene output) = needs_between asked before scene output
turn_needs refused asked birth before (tries command kept scene output) =
    if lacks_room refused kept.store scene.store then error_needs asked.scratch birth before VmError
    command (record kept { names = scene.names })
    else needs_between asked before scene output
turn_needs refused asked birth before (breaks cause scene) =
    break_needs asked birth cause scene
turn_needs refused asked birth before (errs error command kept) =
    error_needs asked.scratch birth before error command kept
turn_needs refused asked birth before (leaves_to calling kept) =
    record nothing_needed { scratch = asked.scratch }

-- ---- steps

abbrev pub status_of : Turned → Status
status_of Goes = running
status_of (Calls operator) = running
status_of (Breaks cause) = unwinding (cause_of cause)
status_of (Ends told) = finished

-- the lines of errors that were printed, and its own
abbrev pub lines_after : Turned → ℕ → ℕ
lines_after (Ends true) lines = lines + 1
lines_after turned lines = lines

-- what the operator of a row does, where that is left to the world
abbrev pub deed_in : Row → Option (List Value → Call → Outcome Deed)
deed_in (world_row does) = Some does
deed_in row = None

-- whether it is: an operator on contexts or locks, or one that is shown the memory
abbrev pub is_for_world : Operator → Bool
is_for_world operator = is_some (deed_in (row_of scan operator))

abbrev pub calling_of : WorldOperator → Calling
calling_of left = record {
  operator = operator_of left;
  deed = unwrap_or (deed_in (row_of scan (operator_of left))) λ operands call. fails Undefined;
}

-- what the step comes to: the machine is settled, or an operator is left to the world
abbrev pub reached_by : Turned → Machine → Reached
reached_by (Calls operator) machine = leaves_to_world (calling_of operator) machine
reached_by turned machine = reaches (settled machine)

-- what goes on unwinding has a frame
abbrev pub IsUnderWay : Turned → List FrameHere → Type 0
IsUnderWay (Breaks cause) [] = ⊥
IsUnderWay turned frames = Unit {0}

-- what leaves an operator to the world leaves the memory as it was
abbrev pub LeavesHeap : Turned → (old new : Heap) → Type 0
LeavesHeap (Calls operator) old new = new ≡ old
LeavesHeap turned old new = Unit {0}

-- The turn comes to a machine, which is shown but for its end, after what showed a store. The
-- definitions have the rest of the machine
pub record IsTurned (refused : Bool) (turn : Turn) (turned : Turned) (before : Store)
    (old new : Lent) : Type 0 where
  pub after : Store
  pub shown : IsShown new after
  pub lasts : Lasts before after
  pub leaves : LeavesHeap turned old.heap new.heap
  pub is : (machine : Machine) → machine.printed ≡ old.printed
      → machine.context.error_dictionary ≡ birth_at old.heap old.error_dictionary
      → after_turn refused machine turn ≡ reached_by turned (record
      (with_scene (scene_of new after) (status_of turned) machine)
      { printed = new.printed; error_lines = lines_after turned machine.error_lines })

-- it is turned; or the step is not made, nothing has changed, and there is a reason
abbrev pub TurnsAs : Needs → Attempt → Result Turned Reason → Turn → (before : Store)
    → (old new : Lent) → Type 0
TurnsAs needs attempt (Ok turned) turn before old new =
    IsTurned attempt.refused turn turned before old new
TurnsAs needs attempt (Err reason) turn before old new =
    IsReason needs attempt.slot old new reason × IsSame old new

-- for a store that is shown, and by no more records than are asked for
pub record TurnsBy (needs : Needs) (attempt : Attempt) (result : Result Turned Reason) (turn : Turn)
    (before : Store) (old new : Lent) : Type 0 where
  pub did : TurnsAs needs attempt result turn before old new
  pub logs : KeepsLogsWithin (spent result needs.records) old.grants new.grants attempt.slot

-- what this turn of what is lent asks for over a store
abbrev pub needs_in : Attempt → (asks : Lent → Store → Asked) → (turn : Lent → Store → Turn) → Lent
    → Store → Needs
needs_in attempt asks turn l store =
    turn_needs attempt.refused (asks l store) (birth_at l.heap l.error_dictionary)
    (scene_of l store)
    (turn l store)

-- For every one of these stores the turn came about, by what it asks for. What is lent stays good,
-- what stood goes on standing, and the logs are kept
pub record TurnsOver (stores : Lent → Store → Type 0) (asks : Lent → Store → Asked)
    (turn : Lent → Store → Turn) (attempt : Attempt) (result : Result Turned Reason)
    (old new : Lent) : Type 0 where
  pub meets : (store : Store) → stores old store
      → TurnsBy (needs_in attempt asks turn old store) attempt result (turn old store) store old new
  pub good : IsGood new
  pub keeps : Keeps old.heap new.heap
  pub stays : Stays old new
  pub logs : KeepsLogsWithin (spent result most_records) old.grants new.grants attempt.slot
  -- an element that was taken can be put back
  pub framed : OnErr result (new.frames ≡ old.frames)
  pub under_way : IfOk result (λ turned. IsUnderWay turned new.frames)

-- for every store that the memory shows
abbrev pub Turns : (asks : Lent → Store → Asked) → (turn : Lent → Store → Turn) → Attempt
    → Result Turned Reason → (old new : Lent) → Type 0
Turns asks turn attempt result old new = TurnsOver IsShown asks turn attempt result old new

-- a store that is shown, with values and frames in hand that are within it as the stacks are
pub record IsShownWith (words : List Word) (frames : List FrameHere) (l : Lent) (store : Store)
    : Type 0 where
  pub shown : IsShown l store
  pub words_within : AreWithin l.heap l.names store words
  pub frames_within : AreFramesWithin l.heap l.names store frames

-- for every store that is shown with them
abbrev pub TurnsWith : (words : List Word) → (frames : List FrameHere)
    → (asks : Lent → Store → Asked) → (turn : Lent → Store → Turn) → Attempt
    → Result Turned Reason → (old new : Lent) → Type 0
TurnsWith words frames asks turn attempt result old new =
    TurnsOver (IsShownWith words frames) asks turn attempt result old new

-- ---- what is asked for beside

-- nothing
abbrev pub none_asked : Asked
none_asked = record { records = 0; scratch = no_rooms }

abbrev pub nothing_more : Lent → Store → Asked
nothing_more l store = none_asked

-- ---- errors and unwindings

-- an error by this word
abbrev pub error_turn : ErrorName → (command : Word) → Lent → Store → Turn
error_turn error command l store =
    errs error (value_of (birth_at l.heap) l.names command) (scene_of l store)

-- an unwinding
abbrev pub break_turn : Cause → Lent → Store → Turn
break_turn cause l store = breaks cause (scene_of l store)

-- an error that an operator raises
abbrev pub operator_error : Operator → ErrorName → Lent → Store → Turn
operator_error operator error l store = errs error (command_of operator) (scene_of l store)
