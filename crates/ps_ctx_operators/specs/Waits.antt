-- When the caller of an operator that is left to the world must wait (PLRM2, 7.1).
use Rattle.std.specs.Prelude.{◌≡◌, ℕ, ℤ, Option, Some}
use Rattle.ps_step_outcome.specs.declared.world_operators.WorldOperator.{WorldOperator}
use Rattle.ps_language.specs.Contexts.{context_at}
use Rattle.ps_language.specs.Effect.{waits}
use Rattle.ps_language.specs.Outcome.{leaves}
use Rattle.ps_language.specs.World.{Context, World}
use Rattle.ps_mem.specs.Keeps.{Keeps}
use Rattle.ps_ops_operands.specs.Changes.{KeepsLogsWithin, most_records}
use Rattle.ps_ops_state.specs.declared.lent.Attempt.{Attempt}
use Rattle.ps_ctx_table.specs.Desks.{Desk, IsWorld, IsSteady}
use Rattle.ps_ctx.specs.Calls.{RunsAt, AreFramedBut}
use Rattle.ps_ctx_operators.specs.Done.{outcome_of}

-- in every world that the desk is of; the caller runs, until it is noted that it tries again
pub record WaitsBy (operator : WorldOperator) (caller : ℕ) (attempt : Attempt)
    (shown : Option (ℤ × ℤ)) (old new : Desk) : Type 0 where
  pub meets : (w : World) (context : Context) → IsWorld old w
      → context_at w caller ≡ Some context
      → (outcome_of operator caller attempt.refused w context shown ≡ leaves waits)
      × IsWorld new w
  pub steady : IsSteady new
  pub runs : RunsAt caller new.members
  pub keeps : Keeps old.heap new.heap
  pub program : new.program ≡ old.program
  pub most : new.most ≡ old.most
  pub framed : AreFramedBut caller old.members → AreFramedBut caller new.members
  pub logs : KeepsLogsWithin most_records old.grants new.grants attempt.slot
