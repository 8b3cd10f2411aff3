-- What growth the step of a context in a world may want (PLRM2, 7.1).
use Rattle.std.specs.Prelude.{ℕ, Bool}
use Rattle.std.specs.Option.{option_map_or}
use Rattle.ps_language.specs.Contexts.{context_at}
use Rattle.ps_language.specs.Effect.{Around, Scene, Calling}
use Rattle.ps_language.specs.Locks.{retried}
use Rattle.ps_language.specs.Machines.{with_status, with_scene, around_of, scene_of, turn_as}
use Rattle.ps_language.specs.Step.{machine_of, with_machine}
use Rattle.ps_language.specs.StepValues.{Turn, asks as leaves_to}
use Rattle.ps_language.specs.World.{Status, running, unwinding, again, Machine, World}
use Rattle.ps_ops_state.specs.Acts.{Asked}
use Rattle.ps_step_outcome.specs.Turns.{turn_needs}
use Rattle.ps_ctx.specs.Calls.{call_wants}
use Rattle.ps_ctx.specs.Growth.{Growth, no_growth, growth_for, growth_of_both}

-- of an operator that is called in the world that its caller leaves
abbrev pub called_wants : Calling → (identifier : ℕ) → (refused : Bool) → World → Machine → Growth
called_wants calling identifier refused w left =
    call_wants calling identifier refused (with_machine identifier w left) left.context

-- of an operator that a turn leaves to the world
abbrev pub left_wants : (identifier : ℕ) → (refused : Bool) → World → Machine → Turn → Growth
left_wants identifier refused w machine (leaves_to calling kept) =
    called_wants calling identifier refused w (with_scene kept running machine)
left_wants identifier refused w machine turn = no_growth

-- its own turn
abbrev pub turn_wants : (identifier : ℕ) → (refused : Bool) → Asked → World → Machine → Turn
    → Growth
turn_wants identifier refused asked w machine turn =
    growth_of_both (growth_for
    (turn_needs refused asked machine.context.error_dictionary (scene_of machine) turn))
    (left_wants identifier refused w machine turn)

module _ (asks : Status → Around → Scene → Asked) where
  abbrev pub own_wants : (identifier : ℕ) → (refused : Bool) → World → Machine → Growth
  own_wants identifier refused w machine =
      turn_wants identifier refused
      (asks machine.context.status (around_of w.program machine) (scene_of machine)) w machine
      (turn_as (around_of w.program machine) machine.context.status machine.context.frames
      (scene_of machine))

  -- by the status
  abbrev pub wants_as : Status → (identifier : ℕ) → (refused : Bool) → World → Machine → Growth
  wants_as running identifier refused w machine = own_wants identifier refused w machine
  wants_as (unwinding cause) identifier refused w machine = own_wants identifier refused w machine
  wants_as again identifier refused w machine =
      called_wants (retried machine.context.operands) identifier refused w
      (with_status running machine)
  wants_as status identifier refused w machine = no_growth

  abbrev pub step_wants : (identifier : ℕ) → (refused : Bool) → World → Growth
  step_wants identifier refused w =
      option_map_or (λ context.
      wants_as context.status identifier refused w (machine_of w context)) (context_at w identifier)
      no_growth
