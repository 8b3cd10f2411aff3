-- An error that is raised on the desk as it is.
use Rattle.std.proofs.Common.{◌≡◌, ℕ, ℤ, Option, Some, Err, refl, sym, ap, ◌∙◌}
use Rattle.ps_language.specs.declared.errors.ErrorName.{ErrorName}
use Rattle.ps_step_outcome.specs.declared.world_operators.WorldOperator.{WorldOperator}
use Rattle.ps_language.specs.Contexts.{context_at}
use Rattle.ps_language.specs.Outcome.{fails}
use Rattle.ps_language.specs.Step.{deed_given_room}
use Rattle.ps_language.specs.World.{Context, World}
use Rattle.ps_ops_state.specs.declared.breaks.Break.TheVariants.{Raises}
use Rattle.ps_ops_state.specs.declared.lent.Attempt.{Attempt}
use Rattle.ps_ops_state.proofs.Meeting.{keeps-same, logs-same}
use Rattle.ps_step_outcome.specs.Turns.{calling_of}
use Rattle.ps_ctx_table.specs.declared.members.Member.{Member}
use Rattle.ps_ctx_table.specs.Seats.{item_at}
use Rattle.ps_ctx_table.specs.Worlds.{context_of}
use Rattle.ps_ctx_table.specs.Desks.{Desk, IsWorld, IsSteady}
use Rattle.ps_ctx_table.proofs.Stepping.{context_there}
use Rattle.ps_ctx.specs.Calls.{RunsAt, call_by}
use Rattle.ps_ctx_operators.specs.Done.{DoesBy}

-- the context of the caller
pub here_is : (d : Desk) (w : World) → IsWorld d w → (caller : ℕ) (member : Member)
    → item_at d.members caller ≡ Some member → (context : Context)
    → context_at w caller ≡ Some context → context_of d.heap d.names member ≡ context
here_is d w at caller member found context there =
    let same : Some (context_of d.heap d.names member) ≡ Some context =
    sym (context_there d w at caller member found) ∙ there in cc

pub raised_there : (operator : WorldOperator) (caller : ℕ) (attempt : Attempt) (shown : Option (ℤ × ℤ))
    (d : Desk) (error : ErrorName) → IsSteady d → RunsAt caller d.members
    → ((w : World) (context : Context) → IsWorld d w → context_at w caller ≡ Some context
    → (any : Option (ℤ × ℤ))
    → (calling_of operator).deed context.operands (call_by caller any w context) ≡ fails error)
    → DoesBy operator caller attempt shown (Err (Raises error)) d d
raised_there operator caller attempt shown d error steady runs so = record {
  meets = λ w context at there. (
    λ any. ap (deed_given_room attempt.refused w) (so w context at there any),
    at,
  );
  steady = steady;
  runs = runs;
  keeps = keeps-same d.heap;
  program = refl;
  most = refl;
  framed = λ framed. framed;
  same = λ w at. refl;
  held_up = λ reason bad. absurd (cc);
  logs = logs-same 0 d.grants attempt.slot;
  made = λ is reason bad. absurd (cc);
  leaves = λ is. refl;
}
