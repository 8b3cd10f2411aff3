-- It does what the definitions say.
use Rattle.std.proofs.Common.{sym, subst, arith}
use Rattle.std.specs.Prelude.{Result}
use Rattle.ps_step_outcome.specs.declared.world_operators.WorldOperator.TheVariants.{CurrentContext}
use Rattle.ps_ops_state.specs.declared.breaks.Break.{Break}
use Rattle.ps_ops_state.specs.Lent.{Lent, lent_of}
use Rattle.ps_ctx_table.specs.declared.members.Member.{Member}
use Rattle.ps_ctx_table.specs.Desks.{Desk, desk_unmade}
use Rattle.ps_ctx.specs.declared.notes.Note.{Note}
use Rattle.ps_ctx.specs.Calls.{over_of}
use Rattle.ps_ctx_operators.specs.Done.{DoesBy}
use Rattle.ps_ctx_operators.proofs.AloneDone.{current_does}
use Rattle.ps_ctx_operators.proofs.Ending.{runs_by}
use Rattle.ps_ctx_table.proofs.Places.{identifier_within}
use Rattle.ps_ctx_operators.proofs.callers.current_context.Goals as goal

pub returns : goal.returns
returns g c = λ attempt shown.
    let d : Desk = over_of g.M.Memory.heap g.M.Memory.grants c.args.runtime.now
    c.args.contexts.now in
    let new : Lent = lent_of g.M.Memory.heap g.M.Memory.grants c.current_context-outcome.new.context c.current_context-outcome.new.runtime in
    let member : Member = c.get_mut-member.result.now in
    let found = sym c.get_mut-member.ensures.value in
    subst (λ (result : Result Note Break). DoesBy CurrentContext c.args.caller attempt shown result d
    (desk_unmade d c.args.caller member new)) (sym c.noted.ensures)
    (current_does c.args.caller attempt shown d c.requires.steady member found
    (runs_by d.members c.args.caller member found c.requires.runs) new c.current_context-outcome.result
    (c.current_context-outcome.ensures.acts attempt))

pub current_context-outcome-requires-clause-caller :
    goal.current_context-outcome-requires-clause-caller
current_context-outcome-requires-clause-caller g c =
    let there = identifier_within c.args.contexts.now.table c.args.caller c.requires.runs.member
    c.requires.runs.found in
    let few = c.get_mut-member.ensures.within in
    omega (arith, there, few)
