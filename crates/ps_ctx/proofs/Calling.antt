-- A call whose element is taken is made, or is not.
use Rattle.std.proofs.Common.{◌≡◌, ℤ, Bool, true, false, Option, Some, None, Ok, Err, refl, sym, ap, subst, ◌∙◌}
use Rattle.std.specs.Prelude.{◌&&◌, if◌then◌else◌}
use Rattle.ps_language.specs.Contexts.{context_at}
use Rattle.ps_language.specs.Step.{with_machine, Stepped, after_own, called, stepped}
use Rattle.ps_language.specs.World.{World}
use Rattle.ps_ops_operands.specs.declared.failure.NotMade.{NotMade as Reason}
use Rattle.ps_ops_state.specs.declared.lent.Attempt.{Attempt}
use Rattle.ps_step_outcome.specs.Turns.{calling_of}
use Rattle.ps_ctx_table.proofs.Owning.{goes_left, put_back}
use Rattle.ps_ctx_table.proofs.Stepping.{stepped_own}
use Rattle.ps_ctx_table.specs.Desks.{Desk, IsWorld}
use Rattle.ps_ctx.specs.declared.notes.Note.{Note}
use Rattle.ps_ctx.specs.declared.worlds.Calling.{Calling}
use Rattle.ps_ctx.specs.Calls.{Calls}
use Rattle.ps_ctx.specs.Held.{held, IsCalling}
use Rattle.ps_ctx.specs.Notes.{IsNoStatus, HasNoStatus}
use Rattle.ps_ctx.specs.Steps.{StepsTo}

-- ---- what is left

pub none_left : {A : Type 0} (b : Bool) (a : A) → (if b && false then None else Some a) ≡ Some a
none_left true a = refl
none_left false a = refl

-- ---- the call

module _ (calling : Calling) (attempt : Attempt) (shown : Option (ℤ × ℤ)) (old new : Desk)
    (w : World) (at : IsCalling calling old w) where
  step_calls : stepped w calling.caller attempt.refused shown
      ≡ called (calling_of calling.operator) calling.caller attempt.refused shown
      (with_machine calling.caller w at.left) at.left.context
  step_calls =
      stepped_own w calling.caller attempt.refused shown at.context at.found at.goes_on
      ∙ ap (after_own calling.caller attempt.refused shown w) (at.leaves attempt.refused)

  pub there : context_at (with_machine calling.caller w at.left) calling.caller
      ≡ Some at.left.context
  there =
      put_back w calling.caller at.context at.found at.left (goes_left at.left.context at.runs)

  pub call_made : (note : Note) → Calls calling.operator calling.caller attempt shown (Ok note) old new
      → StepsTo (Ok note) (stepped w calling.caller attempt.refused shown) w (held new None)
  call_made note calls =
      let to = calls.meets (with_machine calling.caller w at.left) at.left.context at.world there
      in (
        subst (λ (s : Stepped). IsWorld new s.world) (sym step_calls) to.0,
        refl,
        to.1 ∙ ap (λ (s : Stepped). s.note) (sym step_calls),
      )

  pub call_unmade : (reason : Reason)
      → Calls calling.operator calling.caller attempt shown (Err reason) old new
      → IsCalling calling new w
  call_unmade reason calls = record {
    context = at.context;
    found = at.found;
    goes_on = at.goes_on;
    left = at.left;
    runs = at.runs;
    leaves = at.leaves;
    world = calls.meets (with_machine calling.caller w at.left) at.left.context at.world there;
  }

-- what isn't made is no vmstatus that acts, however it is tried
pub never_status : (calling : Calling) (attempt : Attempt) (old new : Desk) (w : World)
    (at : IsCalling calling old w) (reason : Reason) (shown : Option (ℤ × ℤ))
    → Calls calling.operator calling.caller attempt shown (Err reason) old new
    → HasNoStatus w calling.caller
never_status calling attempt old new w at reason shown calls = λ refused any.
    subst (λ (s : Stepped). IsNoStatus s.note)
    (sym (step_calls calling (record { slot = attempt.slot; refused = refused }) any old new w at))
    (calls.no_status (with_machine calling.caller w at.left) at.left.context at.world
    (there calling attempt shown old new w at) refused any)
