use Rattle.ps_ops.proofs.Frugal.{frugal}
use Rattle.ps_ops.proofs.laws.frugal_operators.Goals as goal

pub returns : goal.returns
returns c = frugal
