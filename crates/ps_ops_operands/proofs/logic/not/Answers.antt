use Rattle.ps_ops_operands.proofs.Sources.{from_replaced}
use Rattle.ps_ops_operands.proofs.logic.not.Goals as goal

pub returns-clause-kept : goal.returns-clause-kept
returns-clause-kept c = from_replaced _ _ _ 1 c.replace.ensures c.in-Some-negation_of.ensures.plain
