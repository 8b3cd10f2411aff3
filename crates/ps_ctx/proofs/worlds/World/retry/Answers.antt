-- The call is tried again.
use Rattle.std.proofs.Common.{sym, ap, ◌∙◌}
use Rattle.ps_ctx_table.specs.declared.members.Member.{Member}
use Rattle.ps_ctx.proofs.Again.{runs_at, running_steady, retry_made, retry_unmade, back_some}
use Rattle.ps_ctx_table.proofs.Places.{one_there}
use Rattle.ps_ctx.proofs.worlds.World.retry.Goals as goal

pub call-requires-clause-runs : goal.call-requires-clause-runs
call-requires-clause-runs g c =
    runs_at _ c.requires.steady.steady c.args.identifier c.get_mut-member.result.now
    (sym c.get_mut-member.ensures.value)

pub call-requires-clause-steady : goal.call-requires-clause-steady
call-requires-clause-steady g c =
    running_steady _ c.requires.steady.steady c.args.identifier c.get_mut-member.result.now
    (sym c.get_mut-member.ensures.value)

pub get_mut-member-requires-in-Err : goal.get_mut-member-requires-in-Err
get_mut-member-requires-in-Err g c =
    back_some _ c.requires.steady.steady c.args.identifier c.get_mut-member.result.now
    (sym c.get_mut-member.ensures.value) _ _ c.args.attempt c.args.shown c.in-Err.reason
    (rw c.in-Err.is at c.call.ensures)

pub returns-in-Ok : goal.returns-in-Ok
returns-in-Ok g c = λ asks.
    rw c.requires.calling
    (retry_made asks _ c.requires.steady c.args.identifier c.get_mut-member.result.now
    (sym c.get_mut-member.ensures.value)
    (ap (λ (m : Member). m.course) (one_there _ c.args.identifier _ _
    (sym c.get_mut-member.ensures.value) c.requires.course.found) ∙ c.requires.course.is)
    c.retried-operator.result c.retried-operator.ensures c.args.attempt c.args.shown c.in-Ok.note _
    (rw c.in-Ok.is at c.call.ensures))

pub returns-in-Err : goal.returns-in-Err
returns-in-Err g c = λ asks.
    rw c.requires.calling
    (retry_unmade asks _ c.requires.steady c.args.identifier c.get_mut-member.result.now
    (sym c.get_mut-member.ensures.value)
    (ap (λ (m : Member). m.course) (one_there _ c.args.identifier _ _
    (sym c.get_mut-member.ensures.value) c.requires.course.found) ∙ c.requires.course.is) c.retried-operator.result
    c.retried-operator.ensures c.args.attempt c.args.shown c.in-Err.reason _
    (rw c.in-Err.is at c.call.ensures) c.get_mut-member-in-Err.result.now
    c.get_mut-member-in-Err.ensures.value)
