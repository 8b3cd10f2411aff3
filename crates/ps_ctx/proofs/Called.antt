-- Steps of a context that called, by what the call came to.
use Rattle.std.proofs.Common.{◌≡◌, ℤ, Option, Some, None, Ok, Err, refl, ap, subst}
use Rattle.ps_language.specs.Effect.{Around, Scene}
use Rattle.ps_language.specs.Step.{with_machine}
use Rattle.ps_language.specs.World.{Status}
use Rattle.ps_ops_operands.specs.declared.failure.NotMade.{NotMade as Reason}
use Rattle.ps_ops_state.specs.declared.lent.Attempt.{Attempt}
use Rattle.ps_ops_state.specs.Acts.{Asked}
use Rattle.ps_ctx_table.specs.Desks.{Desk}
use Rattle.ps_ctx.specs.declared.notes.Note.{Note}
use Rattle.ps_ctx.specs.declared.worlds.Calling.{Calling}
use Rattle.ps_ctx.specs.Calls.{Calls, IsSameDesk}
use Rattle.ps_ctx.specs.Held.{held, IsSteadyHeld}
use Rattle.ps_ctx.specs.Steps.{Steps}
use Rattle.ps_ctx.proofs.Calling.{call_made, call_unmade, never_status}
use Rattle.ps_ctx.proofs.Starving.{call_held}

-- nothing has changed but what was granted
pub same_members : (old new : Desk) → IsSameDesk old new → new.members ≡ old.members
same_members old new same = ap (λ (d : Desk). d.members) same

module _ (asks : Status → Around → Scene → Asked) (calling : Calling) (attempt : Attempt)
    (shown : Option (ℤ × ℤ)) (old new : Desk) (steady : IsSteadyHeld (held old (Some calling)))
  where
    pub steps_called : (note : Note)
        → Calls calling.operator calling.caller attempt shown (Ok note) old new
        → Steps asks calling.caller attempt shown (Ok note) (held old (Some calling)) (held new None)
    steps_called note calls = record {
      meets = λ w at ready. call_made calling attempt shown old new w at note calls;
      held_up = λ reason bad. absurd (cc);
      same = λ w at. tt;
      waits = λ some. tt;
      no_status = λ w at. tt;
      leaves = λ w at is. calls.leaves is;
      caller = tt;
      logs = λ w at ready. calls.logs;
      keeps = calls.keeps;
      steady = record { steady = calls.steady; framed = calls.framed steady.framed.0 };
      program = calls.program;
      most = calls.most;
    }

    pub steps_uncalled : (reason : Reason)
        → Calls calling.operator calling.caller attempt shown (Err reason) old new
        → Steps asks calling.caller attempt shown (Err reason) (held old (Some calling))
        (held new (Some calling))
    steps_uncalled reason calls = record {
      meets = λ w at ready. call_unmade calling attempt shown old new w at reason calls;
      held_up = λ why is w at ready.
          call_held asks calling attempt shown old new w at why
          (subst (λ r. Calls calling.operator calling.caller attempt shown r old new) is calls);
      same = λ w at. λ kept. calls.same (with_machine calling.caller w at.left) at.world;
      waits = λ some. refl;
      no_status = λ w at. never_status calling attempt old new w at reason shown calls;
      leaves = λ w at is. absurd (cc);
      caller = refl;
      logs = λ w at ready. calls.logs;
      keeps = calls.keeps;
      steady = record {
        steady = calls.steady;
        framed = (calls.unmade.1 steady.framed.0, calls.unmade.0);
      };
      program = calls.program;
      most = calls.most;
    }
