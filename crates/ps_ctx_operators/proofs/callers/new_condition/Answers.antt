-- It does what the definitions say.
use Rattle.std.proofs.Common.{sym, subst}
use Rattle.std.specs.Prelude.{Result}
use Rattle.ps_step_outcome.specs.declared.world_operators.WorldOperator.TheVariants.{Condition}
use Rattle.ps_ops_state.specs.declared.breaks.Break.{Break}
use Rattle.ps_ops_state.specs.Lent.{Lent, lent_of}
use Rattle.ps_ctx_table.specs.declared.members.Member.{Member}
use Rattle.ps_ctx_table.specs.Desks.{Desk, desk_unmade}
use Rattle.ps_ctx.specs.declared.notes.Note.{Note}
use Rattle.ps_ctx.specs.Calls.{over_of}
use Rattle.ps_ctx_operators.specs.Done.{DoesBy}
use Rattle.ps_ctx_operators.proofs.AloneDone.{condition_does}
use Rattle.ps_ctx_operators.proofs.Ending.{runs_by}
use Rattle.ps_ctx_operators.proofs.callers.new_condition.Goals as goal

pub returns : goal.returns
returns g c = λ shown.
    let d : Desk = over_of g.M.Memory.heap g.M.Memory.grants c.args.runtime.now
    c.args.contexts.now in
    let new : Lent = lent_of g.M.Memory.heap g.M.Memory.grants c.new_condition-outcome.new.context c.new_condition-outcome.new.runtime in
    let member : Member = c.get_mut-member.result.now in
    let found = sym c.get_mut-member.ensures.value in
    subst (λ (result : Result Note Break). DoesBy Condition c.args.caller c.args.attempt shown result d
    (desk_unmade d c.args.caller member new)) (sym c.noted.ensures)
    (condition_does c.args.caller c.args.attempt shown d c.requires.steady member found
    (runs_by d.members c.args.caller member found c.requires.runs) new c.new_condition-outcome.result
    c.new_condition-outcome.ensures.acts)
