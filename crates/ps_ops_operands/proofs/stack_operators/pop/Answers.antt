use Rattle.ps_ops_operands.proofs.Sources.{from_dropped}
use Rattle.ps_ops_operands.proofs.stack_operators.pop.Goals as goal

pub returns-clause-kept : goal.returns-clause-kept
returns-clause-kept c = from_dropped _ _ 1 c.discard.ensures
