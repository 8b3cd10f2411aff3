-- The caller waits, or its error is noted.
use Rattle.std.proofs.Common.{sym}
use Rattle.ps_mem.specs.Heap.{birth_at}
use Rattle.ps_ops_state.specs.Lent.{Lent, lent_of}
use Rattle.ps_ctx_table.specs.declared.members.Member.{Member}
use Rattle.ps_ctx_table.specs.Desks.{Desk, IsGoodMember}
use Rattle.ps_ctx_table.proofs.Turning.{member_at}
use Rattle.ps_ctx.specs.Calls.{over_of}
use Rattle.ps_ctx_operators.proofs.Ending.{runs_by}
use Rattle.ps_ctx_operators.proofs.Among.{waited_among}
use Rattle.ps_ctx_operators.proofs.WaitDone.{unwaited, waits}
use Rattle.ps_ctx_operators.proofs.waiting.call_wait.Goals as goal

pub returns-in-Ok : goal.returns-in-Ok
returns-in-Ok g c =
    let d : Desk = over_of g.M.Memory.heap g.M.Memory.grants c.args.runtime.now
    c.args.contexts.now in
    let new : Lent = lent_of g.M.Memory.heap g.M.Memory.grants c.wait.new.context c.wait.new.runtime in
    let member : Member = c.get_mut-member.result.now in
    let found = sym c.get_mut-member.ensures.value in
    let good = member_at (IsGoodMember d) d.members c.args.caller member c.requires.steady.members
    found in
    waits c.args.caller c.args.attempt c.args.shown d c.requires.steady member found
    (runs_by d.members c.args.caller member found c.requires.runs) new c.in-Ok.field-0.lock
    c.in-Ok.field-0.condition
    (waited_among d.heap member.context.operands c.in-Ok.field-0.lock c.in-Ok.field-0.condition
    good.good.operands c.in-Ok.ensures.waited)
    (c.in-Ok.ensures.waited (birth_at d.heap) d.names) c.in-Ok.ensures.acts

pub end-requires-clause-runs : goal.end-requires-clause-runs
end-requires-clause-runs g c =
    let d : Desk = over_of g.M.Memory.heap g.M.Memory.grants c.args.runtime.now
    c.args.contexts.now in
    let new : Lent = lent_of g.M.Memory.heap g.M.Memory.grants c.wait.new.context c.wait.new.runtime in
    let member : Member = c.get_mut-member.result.now in
    let found = sym c.get_mut-member.ensures.value in
    (unwaited c.args.caller c.args.attempt c.args.shown d c.requires.steady member found
    (runs_by d.members c.args.caller member found c.requires.runs) new c.in-Err.why
    c.in-Err.ensures.acts).runs

pub end-requires-clause-steady : goal.end-requires-clause-steady
end-requires-clause-steady g c =
    let d : Desk = over_of g.M.Memory.heap g.M.Memory.grants c.args.runtime.now
    c.args.contexts.now in
    let new : Lent = lent_of g.M.Memory.heap g.M.Memory.grants c.wait.new.context c.wait.new.runtime in
    let member : Member = c.get_mut-member.result.now in
    let found = sym c.get_mut-member.ensures.value in
    (unwaited c.args.caller c.args.attempt c.args.shown d c.requires.steady member found
    (runs_by d.members c.args.caller member found c.requires.runs) new c.in-Err.why
    c.in-Err.ensures.acts).steady

pub returns-in-Err : goal.returns-in-Err
returns-in-Err g c =
    let d : Desk = over_of g.M.Memory.heap g.M.Memory.grants c.args.runtime.now
    c.args.contexts.now in
    let new : Lent = lent_of g.M.Memory.heap g.M.Memory.grants c.wait.new.context c.wait.new.runtime in
    let member : Member = c.get_mut-member.result.now in
    let found = sym c.get_mut-member.ensures.value in
    c.end.ensures c.args.shown d
    (unwaited c.args.caller c.args.attempt c.args.shown d c.requires.steady member found
    (runs_by d.members c.args.caller member found c.requires.runs) new c.in-Err.why
    c.in-Err.ensures.acts)
