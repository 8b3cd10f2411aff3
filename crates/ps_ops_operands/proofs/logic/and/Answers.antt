use Rattle.ps_ops_operands.proofs.Sources.{from_replaced}
use Rattle.ps_ops_operands.proofs.logic.and.Goals as goal

pub returns-clause-kept : goal.returns-clause-kept
returns-clause-kept c = from_replaced _ _ _ 2 c.replace.ensures c.in-Some-conjunction_of.ensures.plain
