-- By the owner of the lock.
use Rattle.std.proofs.Common.{sym, ◌∙◌}
use Rattle.ps_ctx_operators.proofs.Ready.{monitor_by, owned_as, unowned_as}
use Rattle.ps_ctx_operators.proofs.readiness.monitor_waits.Goals as goal

pub returns-then-owned_by-ne0-clause-waits : goal.returns-then-owned_by-ne0-clause-waits
returns-then-owned_by-ne0-clause-waits g c = λ names scene shows.
    owned_as c.args.caller c.owner-owned_by.result c.if-owned_by-ne0.true
    ∙ sym (monitor_by (g.M.Memory.heap c.args.memory.now) names c.args.operands.now _ _
    c.in-Some.ensures c.args.caller c.in-Some-procedure_of.body c.in-Some-procedure_of.ensures.part
    (sym c.is_executable.ensures ∙ c.if-not-is_executable.false) c.in-Some-lock_of.lock
    c.in-Some-lock_of.ensures.value c.owner-owned_by.result c.owner-owned_by.ensures.value scene
    shows)

pub returns-else-owned_by-ne0-clause-waits : goal.returns-else-owned_by-ne0-clause-waits
returns-else-owned_by-ne0-clause-waits g c = λ names scene shows.
    unowned_as c.args.caller c.owner-owned_by.result c.if-owned_by-ne0.false
    ∙ sym (monitor_by (g.M.Memory.heap c.args.memory.now) names c.args.operands.now _ _
    c.in-Some.ensures c.args.caller c.in-Some-procedure_of.body c.in-Some-procedure_of.ensures.part
    (sym c.is_executable.ensures ∙ c.if-not-is_executable.false) c.in-Some-lock_of.lock
    c.in-Some-lock_of.ensures.value c.owner-owned_by.result c.owner-owned_by.ensures.value scene
    shows)
