-- One step of a context with what it shares (PLRM2, 3.5, 3.10).
use Rattle.std.specs.Prelude.{ℕ, ◌+◌, ◌&&◌, Bool, true, false, List, [], ◌∷◌, ◌++◌, if◌then◌else◌}
use Rattle.ps_language.specs.declared.errors.ErrorName.{ErrorName}
use Rattle.ps_language.specs.declared.errors.ErrorName.TheVariants.{VmError}
use Rattle.ps_language.specs.Value.{Value, Dictionary}
use Rattle.ps_language.specs.World.{for_stop, Frame, Status, running, unwinding, finished, Machine}
use Rattle.ps_language.specs.Effect.{Around, Scene, Calling}
use Rattle.ps_language.specs.Access.{dictionary_at, with_dictionary}
use Rattle.ps_language.specs.Objects.{lacks_room}
use Rattle.ps_language.specs.StepValues.{Turn, goes, tries, breaks, errs, asks, leads}
use Rattle.ps_language.specs.StepFrames.{frame_turn, unwound_turn}
use Rattle.ps_language.specs.StepErrors.{with_error, has_new_error, error_line, told}

-- ---- turns

-- by the top frame of a running or unwinding context; no other has such steps
abbrev pub turn_as : Around → Status → List Frame → Scene → Turn
turn_as around running (frame ∷ below) scene = frame_turn around frame below scene
turn_as around (unwinding cause) (frame ∷ below) scene = unwound_turn cause frame below scene
turn_as around _ _ scene = leads scene

-- ---- one context

-- what surrounds its steps
abbrev pub around_of : (program : List ℕ) → Machine → Around
around_of program machine =
    record { program = program; error_dictionary = machine.context.error_dictionary }

-- what an operator may change
abbrev pub scene_of : Machine → Scene
scene_of machine = record {
  operands = machine.context.operands;
  dictionaries = machine.context.dictionaries;
  frames = machine.context.frames;
  store = machine.store;
  names = machine.names;
}

-- with another status
abbrev pub with_status : Status → Machine → Machine
with_status status machine = record machine { context = record machine.context { status = status } }

-- with this scene and status
abbrev pub with_scene : Scene → Status → Machine → Machine
with_scene scene status machine = record machine {
  context = record machine.context {
    operands = scene.operands;
    dictionaries = scene.dictionaries;
    frames =
        scene.frames;
    status = status;
  };
  store = scene.store;
  names = scene.names;
}

-- an error is noted in $error, and an unwinding for stop begins
abbrev pub failed : ErrorName → (command : Value) → Machine → Machine
failed error command machine =
    record (with_status (unwinding for_stop) machine)
    { store = with_error error command machine.context.error_dictionary machine.store }

-- ---- the end of a context

-- the line of an error is printed and counted, and the error isn't new any more
abbrev pub with_line : Dictionary → Machine → Machine
with_line d machine =
    record machine {
      printed = machine.printed ++ error_line machine.store d;
      error_lines = machine.error_lines + 1;
      store = with_dictionary machine.store machine.context.error_dictionary (told d);
    }

-- where that is new
abbrev pub with_line_of : Dictionary → Machine → Machine
with_line_of d machine = if has_new_error d then with_line d machine else machine

-- an unwinding for stop that nothing ended tells its error
abbrev pub told_by : Status → Machine → Machine
told_by (unwinding for_stop) machine =
    with_line_of (dictionary_at machine.store machine.context.error_dictionary) machine
told_by _ machine = machine

-- by the status
abbrev pub may_end : Status → Bool
may_end running = true
may_end (unwinding cause) = true
may_end _ = false

-- whether no frame is left
abbrev pub is_empty : List Frame → Bool
is_empty [] = true
is_empty (frame ∷ frames) = false

-- a running or unwinding context without frames is finished
unfoldable pub settled : Machine → Machine
settled machine =
    if may_end machine.context.status && is_empty machine.context.frames then with_status finished
    (told_by machine.context.status machine)
    else machine

-- ---- a step

-- what a step comes to: it is made; or an operator is left to the world, its element taken
pub data Reached : Type 0 where
  reaches : (machine : Machine) → Reached
  leaves_to_world : (calling : Calling) (machine : Machine) → Reached

-- it goes on
abbrev pub went : Machine → Scene → (output : List ℕ) → Reached
went machine scene output =
    reaches (settled (record (with_scene scene running machine)
    { printed = machine.printed ++ output }))

-- it meets an error
abbrev pub erred : Machine → ErrorName → (command : Value) → (kept : Scene) → Reached
erred machine error command kept =
    reaches (settled (failed error command (with_scene kept running machine)))

-- by its turn; behind all other errors, a refused turn that asks for room is a VMerror, and the
-- names that it formed stay
abbrev pub after_turn : (refused : Bool) → Machine → Turn → Reached
after_turn refused machine (goes scene output) = went machine scene output
after_turn refused machine (tries command kept scene output) =
    if lacks_room refused kept.store scene.store then erred machine VmError command
    (record kept { names = scene.names })
    else went machine scene output
after_turn refused machine (breaks cause scene) =
    reaches (settled (with_scene scene (unwinding cause) machine))
after_turn refused machine (errs error command kept) = erred machine error command kept
after_turn refused machine (asks calling kept) =
    leaves_to_world calling (with_scene kept running machine)

-- the whole step of a running or unwinding context
unfoldable pub own_step : (program : List ℕ) → (refused : Bool) → Machine → Reached
own_step program refused machine =
    after_turn refused machine
    (turn_as (around_of program machine) machine.context.status machine.context.frames
    (scene_of machine))
