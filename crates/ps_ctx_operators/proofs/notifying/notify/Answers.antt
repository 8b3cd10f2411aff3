-- Who waits is notified.
use Rattle.std.proofs.Common.{Ok, sym, subst}
use Rattle.ps_step_outcome.specs.declared.world_operators.WorldOperator.TheVariants.{Notify}
use Rattle.ps_mem.specs.Heap.{birth_at}
use Rattle.ps_ops_state.specs.Lent.{Lent, lent_of}
use Rattle.ps_ctx_table.specs.declared.members.Member.{Member}
use Rattle.ps_ctx_table.specs.Desks.{Desk, desk, IsGoodMember}
use Rattle.ps_ctx_table.proofs.Turning.{member_at}
use Rattle.ps_ctx.specs.declared.notes.Note.TheVariants.{Nothing}
use Rattle.ps_ctx.specs.Calls.{over_of}
use Rattle.ps_ctx_operators.specs.Done.{DoesBy}
use Rattle.ps_ctx_operators.proofs.Ending.{runs_by}
use Rattle.ps_ctx_operators.proofs.Among.{condition_among}
use Rattle.ps_ctx_operators.proofs.NotifyDone.{notified_done, unnotified}
use Rattle.ps_ctx_operators.proofs.notifying.notify.Goals as goal

pub returns-in-Ok : goal.returns-in-Ok
returns-in-Ok g c = λ attempt shown.
    let d : Desk = over_of g.M.Memory.heap g.M.Memory.grants c.args.runtime.now
    c.args.contexts.now in
    let new : Lent = lent_of g.M.Memory.heap g.M.Memory.grants c.notify.new.context c.notify.new.runtime in
    let member : Member = c.get_mut-member.result.now in
    let found = sym c.get_mut-member.ensures.value in
    let good = member_at (IsGoodMember d) d.members c.args.caller member c.requires.steady.members
    found in
    subst (λ (one : Desk). DoesBy Notify c.args.caller attempt shown (Ok Nothing) d one)
    {y = desk new.heap new.grants c.notify_all.new.self.table c.notify.new.runtime.shared
    c.notify_all.new.self.has_faulted}
    (sym (λ i. desk new.heap new.grants (c.notify_all.ensures.table i)
    c.notify.new.runtime.shared (c.notify_all.ensures.faulted i)))
    (notified_done c.args.caller attempt shown d c.requires.steady member found
    (runs_by d.members c.args.caller member found c.requires.runs) new c.in-Ok.condition
    (condition_among d.heap member.context.operands c.in-Ok.condition good.good.operands
    c.in-Ok.ensures.condition) c.in-Ok.ensures.stands
    (c.in-Ok.ensures.condition (birth_at d.heap) d.names) (c.in-Ok.ensures.acts attempt))

pub returns-in-Err : goal.returns-in-Err
returns-in-Err g c = λ attempt shown.
    let d : Desk = over_of g.M.Memory.heap g.M.Memory.grants c.args.runtime.now
    c.args.contexts.now in
    let new : Lent = lent_of g.M.Memory.heap g.M.Memory.grants c.notify.new.context c.notify.new.runtime in
    let member : Member = c.get_mut-member.result.now in
    let found = sym c.get_mut-member.ensures.value in
    unnotified c.args.caller attempt shown d c.requires.steady member found
    (runs_by d.members c.args.caller member found c.requires.runs) new c.in-Err.why
    (c.in-Err.ensures.acts attempt)
