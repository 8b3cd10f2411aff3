-- What it did under more frames is a step by itself.
use Rattle.ps_ops.proofs.Unframed.{goes_under}
use Rattle.ps_ops.proofs.operators.OperatorsOperate.operate_under.Goals as goal

pub returns-clause-goes : goal.returns-clause-goes
returns-clause-goes g c = goes_under c.args.operator c.args.slot _ _ _ c.operate_under.ensures.acts
