-- By the context that is named, if there is one.
use Rattle.std.proofs.Common.{ap, ◌∙◌}
use Rattle.std.specs.Prelude.{not}
use Rattle.ps_mem.specs.Heap.{birth_at}
use Rattle.ps_ops_operands.specs.Changes.{values_in}
use Rattle.ps_ctx_operators.proofs.JoinWaits.{unnamed_waits, named_waits}
use Rattle.ps_ctx_operators.proofs.join_waits.join_waits.Goals as goal

pub returns-in_default-named : goal.returns-in_default-named
returns-in_default-named c = λ h names call caller at.
    unnamed_waits call (values_in h names c.args.operands.now) c.in-Ok.identifier
    (c.in-Ok.ensures.agrees (birth_at h) names) h names c.args.contexts.now.table at
    c.in_default-named.ensures

pub returns-then-identifier-caller : goal.returns-then-identifier-caller
returns-then-identifier-caller c = λ h names call caller at.
    ap not c.is_finished.ensures
    ∙ named_waits call (values_in h names c.args.operands.now) c.in-Ok.identifier
    (c.in-Ok.ensures.agrees (birth_at h) names) h names c.args.contexts.now.table at
    c.in-Some.other.now c.in-Some.ensures (λ same. c.if-identifier-caller.true (same ∙ caller))
