-- A context that is detached and finished is gone.
use Rattle.std.proofs.Common.{sym, ◌∙◌}
use Rattle.ps_ctx_operators.proofs.DetachDone.{detached_gone}
use Rattle.ps_ctx_operators.proofs.detaching.leave.Goals as goal

pub returns-then-is_finished : goal.returns-then-is_finished
returns-then-is_finished c =
    detached_gone c.args.table.now c.remove.new.self c.args.identifier
    c.get_mut-member.result.now c.remove.result (sym c.get_mut-member.ensures.value)
    (sym c.is_finished.ensures ∙ c.if-is_finished.true) c.remove.ensures.removed
    c.remove.ensures.after
