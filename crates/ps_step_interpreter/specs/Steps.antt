-- When a step of a context by itself went as the definitions say (PLRM2, 3.5, 3.10).
use Rattle.std.specs.Prelude.{Result, Ok, Err}
use Rattle.ps_language.specs.Effect.{Around, Scene}
use Rattle.ps_language.specs.World.{Status, Machine}
use Rattle.ps_mem.specs.Keeps.{Keeps}
use Rattle.ps_ops_operands.specs.declared.failure.NotMade.{NotMade as Reason}
use Rattle.ps_ops_operands.specs.Changes.{KeepsLogsWithin, spent}
use Rattle.ps_ops_state.specs.declared.lent.Attempt.{Attempt}
use Rattle.ps_ops_state.specs.Acts.{Asked, Needs, IsReason, Stays}
use Rattle.ps_step_interpreter.specs.Alone.{alone_step}
use Rattle.ps_step_interpreter.specs.Courses.{Held, IsAt, IsSteady}
use Rattle.ps_step_interpreter.specs.Needs.{alone_needs, IsHeldUp}

-- it comes to the next machine; or it is not made, the context is at the same machine as before,
-- and there is a reason, which still stands
abbrev pub StepsTo : Needs → (next : Machine) → Attempt → Result Unit Reason → (machine : Machine)
    → (old new : Held) → Type 0
StepsTo needs next attempt (Ok _) machine old new = IsAt new next
StepsTo needs next attempt (Err reason) machine old new =
    IsAt new machine × IsReason needs attempt.slot old.lent new.lent reason
    × IsHeldUp needs attempt.slot new.lent reason

-- by no more records than are asked for
pub record StepsFrom (needs : Needs) (next : Machine) (attempt : Attempt)
    (result : Result Unit Reason)
    (machine : Machine) (old new : Held) : Type 0 where
  pub did : StepsTo needs next attempt result machine old new
  pub logs : KeepsLogsWithin (spent result needs.records) old.lent.grants new.lent.grants
      attempt.slot

-- for every machine that it is at
pub record Steps (asks : Status → Around → Scene → Asked) (attempt : Attempt)
    (result : Result Unit Reason) (old new : Held) : Type 0 where
  pub meets : (machine : Machine) → IsAt old machine
      → StepsFrom (alone_needs asks old.lent.program attempt.refused machine)
      (alone_step old.lent.program attempt.refused machine) attempt result machine old new
  pub steady : IsSteady new
  pub keeps : Keeps old.lent.heap new.lent.heap
  pub stays : Stays old.lent new.lent
