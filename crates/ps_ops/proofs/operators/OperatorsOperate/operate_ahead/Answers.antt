-- What it did to operands and frames is a step by itself.
use Rattle.ps_step_execute.specs.Values.{over_heap}
use Rattle.ps_ops.proofs.Acted.{enters_in}
use Rattle.ps_ops.proofs.operators.OperatorsOperate.operate_ahead.Goals as goal

pub returns-clause-comes : goal.returns-clause-comes
returns-clause-comes g c =
    enters_in (over_heap (g.M.Memory.heap c.args.memory.now)) c.args.operator _ _ _ c.operate_ahead.ensures.acts
