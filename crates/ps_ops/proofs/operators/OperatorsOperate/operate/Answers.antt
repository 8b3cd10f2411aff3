-- An operator that is left to the world is handed up.
use Rattle.ps_ops.proofs.Stepping.{left_on}
use Rattle.ps_ops.proofs.operators.OperatorsOperate.operate.Goals as goal

pub returns-in-Some : goal.returns-in-Some
returns-in-Some g c =
    left_on c.in-Some.left c.args.attempt _ c.requires.good c.args.operator c.in-Some.ensures.is
