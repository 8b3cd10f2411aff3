-- What a step of a context by itself asks for (PLRM2, 3.5, 3.10).
use Rattle.std.specs.Prelude.{ℕ, ◌&&◌, ◌||◌, nat_lt, Bool, true, IsTrue, List}
use Rattle.ps_language.specs.declared.errors.ErrorName.TheVariants.{Undefined}
use Rattle.ps_language.specs.Effect.{Around, Scene}
use Rattle.ps_language.specs.Machines.{around_of, scene_of, turn_as}
use Rattle.ps_language.specs.StepValues.{Turn, asks as leaves_to, command_of}
use Rattle.ps_language.specs.World.{Status, Machine}
use Rattle.ps_ops_operands.specs.declared.failure.NotMade.{NotMade as Reason}
use Rattle.ps_ops_operands.specs.declared.failure.NotMade.TheVariants.{Memory}
use Rattle.ps_ops_state.specs.Acts.{Asked, Needs, IsReason}
use Rattle.ps_ops_state.specs.Lent.{Lent, Rooms}
use Rattle.ps_step_outcome.specs.Turns.{error_needs, turn_needs}

-- an operator that is left to the world asks for what the error asks for that it raises
abbrev pub alone_turn_needs : (refused : Bool) → Asked → (birth : ℕ) → (before : Scene) → Turn
    → Needs
alone_turn_needs refused asked birth before (leaves_to calling kept) =
    error_needs asked.scratch birth kept Undefined (command_of calling.operator) kept
alone_turn_needs refused asked birth before turn = turn_needs refused asked birth before turn

-- the turn of a machine
abbrev pub machine_turn : (program : List ℕ) → Machine → Turn
machine_turn program machine =
    turn_as (around_of program machine) machine.context.status machine.context.frames
    (scene_of machine)

-- of its next step; asks: what is asked for beside
module _ (asks : Status → Around → Scene → Asked) where
  abbrev pub alone_needs : (program : List ℕ) → (refused : Bool) → Machine → Needs
  alone_needs program refused machine =
      alone_turn_needs refused
      (asks machine.context.status (around_of program machine) (scene_of machine))
      machine.context.error_dictionary (scene_of machine) (machine_turn program machine)

-- ---- want of memory

abbrev pub wants_rooms : Rooms → Bool
wants_rooms rooms = nat_lt 0 rooms.text || (nat_lt 0 rooms.sought || nat_lt 0 rooms.words)

-- whether a growth may be refused: bytes are printed, a name is formed, an object is made in a
-- memory that grows, or something is read into a list
abbrev pub wants : (grows : Bool) → Needs → Bool
wants grows needs =
    nat_lt 0 needs.bytes
    || (nat_lt 0 needs.names || ((nat_lt 0 needs.words && grows) || wants_rooms needs.scratch))

-- over a memory that grows
module _ (asks : Status → Around → Scene → Asked) where
  abbrev pub wants_memory : (program : List ℕ) → (refused : Bool) → Machine → Bool
  wants_memory program refused machine = wants true (alone_needs asks program refused machine)

-- a reason that still stands once a step was not made, whatever room there was for it
abbrev pub IsHeldUp : Needs → (slot : ℕ) → Lent → Reason → Type 0
IsHeldUp needs slot l Memory = IsTrue (wants l.heap.space.grows needs)
IsHeldUp needs slot l reason = IsReason needs slot l l reason
