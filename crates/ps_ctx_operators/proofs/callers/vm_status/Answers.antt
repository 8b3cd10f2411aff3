-- It does what the definitions say.
use Rattle.std.proofs.Common.{sym}
use Rattle.ps_ops_state.specs.Lent.{Lent, lent_of}
use Rattle.ps_ctx_table.specs.declared.members.Member.{Member}
use Rattle.ps_ctx_table.specs.Desks.{Desk}
use Rattle.ps_ctx.specs.Calls.{over_of}
use Rattle.ps_ctx_operators.proofs.AloneDone.{raised_only, status_done, status_undone}
use Rattle.ps_ctx_operators.proofs.Ending.{runs_by}
use Rattle.ps_ctx_operators.proofs.callers.vm_status.Goals as goal

pub returns-in-Ok : goal.returns-in-Ok
returns-in-Ok g c = λ attempt.
    let d : Desk = over_of g.M.Memory.heap g.M.Memory.grants c.args.runtime.now
    c.args.contexts.now in
    let new : Lent = lent_of g.M.Memory.heap g.M.Memory.grants c.vm_status.new.context c.vm_status.new.runtime in
    let member : Member = c.get_mut-member.result.now in
    let found = sym c.get_mut-member.ensures.value in
    status_done c.args.caller attempt c.args.shown d c.requires.steady member found
    (runs_by d.members c.args.caller member found c.requires.runs) new c.in-Ok.ensures.heap
    (c.in-Ok.ensures.acts attempt)

pub returns-in-Err : goal.returns-in-Err
returns-in-Err g c = λ attempt.
    let d : Desk = over_of g.M.Memory.heap g.M.Memory.grants c.args.runtime.now
    c.args.contexts.now in
    let new : Lent = lent_of g.M.Memory.heap g.M.Memory.grants c.vm_status.new.context c.vm_status.new.runtime in
    let member : Member = c.get_mut-member.result.now in
    let found = sym c.get_mut-member.ensures.value in
    status_undone c.args.caller attempt c.args.shown d c.requires.steady member found
    (runs_by d.members c.args.caller member found c.requires.runs) new c.in-Err.why
    (λ reason. raised_only c.in-Err.why reason c.in-Err.ensures.error)
    (c.in-Err.ensures.acts attempt)
