-- It does what the definitions say.
use Rattle.ps_ctx_operators.proofs.AloneDone.{yields}
use Rattle.ps_ctx_operators.proofs.callers.give_way.Goals as goal

pub returns : goal.returns
returns c = λ caller attempt shown desk steady runs. yields caller attempt shown desk steady runs
