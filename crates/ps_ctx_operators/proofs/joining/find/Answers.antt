-- Nothing is named.
use Rattle.std.proofs.Common.{subst}
use Rattle.ps_ctx_operators.specs.Named.{Names}
use Rattle.ps_ctx_operators.proofs.JoinFound.{misnamed_so}
use Rattle.ps_ctx_operators.proofs.joining.find.Goals as goal

pub returns-in-Err : goal.returns-in-Err
returns-in-Err c =
    misnamed_so c.args.caller c.in-Err.error c.args.contexts.now.table
    (subst (λ result. Names c.args.caller result c.args.contexts.now.table) c.in-Err.is
    c.named_operand.ensures)
