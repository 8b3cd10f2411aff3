-- By how far the context is.
use Rattle.std.proofs.Common.{None, refl, sym, subst}
use Rattle.ps_ctx_table.specs.declared.members.Course.TheVariants.{Running, Unwinding, Waiting, Finished}
use Rattle.ps_ctx_table.specs.Desks.{Desk, IsCourseHeld, IsGoodMember}
use Rattle.ps_ctx_table.proofs.Turning.{member_at}
use Rattle.ps_ctx.specs.Calls.{call_by, over_of}
use Rattle.ps_ctx_table.specs.Worlds.{context_of}
use Rattle.ps_ctx_operators.proofs.Ready.{gone_unready, ready_by, again_ready, retaking_ready}
use Rattle.ps_ctx_operators.proofs.readiness.is_ready.Goals as goal

pub returns-in_default-clause-ready : goal.returns-in_default-clause-ready
returns-in_default-clause-ready g c = λ w at.
    gone_unready _ w at c.args.identifier (sym c.in_default.ensures.item)

pub waits_again-requires-clause-values : goal.waits_again-requires-clause-values
waits_again-requires-clause-values g c =
    let d : Desk = over_of g.M.Memory.heap g.M.Memory.grants c.args.runtime.now
    c.args.contexts.now in
    (member_at (IsGoodMember d) d.members c.args.identifier c.in-Some.member.now
    c.requires.steady.members (sym c.in-Some.ensures.item)).good.operands

pub owner-requires-clause-known : goal.owner-requires-clause-known
owner-requires-clause-known g c =
    let d : Desk = over_of g.M.Memory.heap g.M.Memory.grants c.args.runtime.now
    c.args.contexts.now in
    subst (IsCourseHeld d.heap) c.in-Retaking.is
    (member_at (IsGoodMember d) d.members c.args.identifier c.in-Some.member.now
    c.requires.steady.members (sym c.in-Some.ensures.item)).course

pub returns-in-Running-clause-ready : goal.returns-in-Running-clause-ready
returns-in-Running-clause-ready g c = λ w at.
    sym (ready_by _ w at c.args.identifier c.in-Some.member.now (sym c.in-Some.ensures.item) Running
    c.in-Running.is)

pub returns-in-Unwinding-clause-ready : goal.returns-in-Unwinding-clause-ready
returns-in-Unwinding-clause-ready g c = λ w at.
    sym (ready_by _ w at c.args.identifier c.in-Some.member.now (sym c.in-Some.ensures.item)
    (Unwinding _) c.in-Unwinding.is)

pub returns-in-Again-clause-ready : goal.returns-in-Again-clause-ready
returns-in-Again-clause-ready g c = λ w at.
    let d : Desk = over_of g.M.Memory.heap g.M.Memory.grants c.args.runtime.now
    c.args.contexts.now in
    again_ready d w at c.args.identifier c.in-Some.member.now (sym c.in-Some.ensures.item) c.in-Again.is
    c.waits_again.result (c.waits_again.ensures.waits d.names
    (call_by c.args.identifier None w (context_of d.heap d.names c.in-Some.member.now)) refl
    at.shows at.contexts)

pub returns-in-Waiting-clause-ready : goal.returns-in-Waiting-clause-ready
returns-in-Waiting-clause-ready g c = λ w at.
    sym (ready_by _ w at c.args.identifier c.in-Some.member.now (sym c.in-Some.ensures.item)
    (Waiting _ _) c.in-Waiting.is)

pub returns-in-Retaking-clause-ready : goal.returns-in-Retaking-clause-ready
returns-in-Retaking-clause-ready g c = λ w at.
    retaking_ready _ w at c.args.identifier c.in-Some.member.now (sym c.in-Some.ensures.item)
    c.in-Retaking.lock c.in-Retaking.is c.owner.result
    (c.owner.ensures.value c.args.runtime.now.shared.names w.store at.shows)

pub returns-in-Finished-clause-ready : goal.returns-in-Finished-clause-ready
returns-in-Finished-clause-ready g c = λ w at.
    sym (ready_by _ w at c.args.identifier c.in-Some.member.now (sym c.in-Some.ensures.item) Finished
    c.in-Finished.is)
