-- It does what the definitions say.
use Rattle.std.proofs.Common.{sym, rules, w32}
use mir.Val.{SFits}
use Rattle.std.proofs.lemmas.Int.{to_z-of_z}
use Rattle.ps_mem.specs.Heap.{birth_at}
use Rattle.ps_ops_state.specs.Lent.{Lent, lent_of}
use Rattle.ps_ctx_table.specs.declared.members.Member.{Member}
use Rattle.ps_ctx_table.specs.Desks.{Desk}
use Rattle.ps_ctx.specs.Calls.{over_of}
use Rattle.ps_ctx_operators.proofs.AloneDone.{reclaimed, unreclaimed}
use Rattle.ps_ctx_operators.proofs.Ending.{runs_by}
use Rattle.ps_ctx_operators.proofs.callers.vm_reclaim.Goals as goal

pub returns-in-Ok : goal.returns-in-Ok
returns-in-Ok g c = λ attempt shown.
    let d : Desk = over_of g.M.Memory.heap g.M.Memory.grants c.args.runtime.now
    c.args.contexts.now in
    let new : Lent = lent_of g.M.Memory.heap g.M.Memory.grants c.vm_reclaim.new.context c.vm_reclaim.new.runtime in
    let member : Member = c.get_mut-member.result.now in
    let found = sym c.get_mut-member.ensures.value in
    let fits : SFits w32 c.in-Ok.number = search rules in
    simp to_z-of_z (reclaimed c.args.caller attempt shown d c.requires.steady member found
    (runs_by d.members c.args.caller member found c.requires.runs) new c.in-Ok.number
    (c.in-Ok.ensures.acts attempt) (c.in-Ok.ensures.wish (birth_at d.heap) d.names))

pub returns-in-Err : goal.returns-in-Err
returns-in-Err g c = λ attempt shown.
    let d : Desk = over_of g.M.Memory.heap g.M.Memory.grants c.args.runtime.now
    c.args.contexts.now in
    let new : Lent = lent_of g.M.Memory.heap g.M.Memory.grants c.vm_reclaim.new.context c.vm_reclaim.new.runtime in
    let member : Member = c.get_mut-member.result.now in
    let found = sym c.get_mut-member.ensures.value in
    unreclaimed c.args.caller attempt shown d c.requires.steady member found
    (runs_by d.members c.args.caller member found c.requires.runs) new c.in-Err.why
    (c.in-Err.ensures.acts attempt)
