-- The caller tries again.
use Rattle.std.proofs.Common.{sym}
use Rattle.ps_ctx.specs.Calls.{over}
use Rattle.ps_ctx_operators.proofs.WaitEnds.{waited}
use Rattle.ps_ctx_operators.proofs.again.wait.Goals as goal

pub returns : goal.returns
returns c = λ operator attempt shown before heap grants shared waits.
    waited operator c.args.caller attempt shown before (over heap grants shared c.args.contexts.now)
    c.get_mut-member.result.now (sym c.get_mut-member.ensures.value) waits
