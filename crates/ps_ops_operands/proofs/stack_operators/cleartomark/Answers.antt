use Rattle.ps_ops_operands.proofs.Marks.{cleartomark_done}
use Rattle.ps_ops_operands.proofs.Sources.{from_dropped}
use Rattle.ps_ops_operands.proofs.stack_operators.cleartomark.Goals as goal

pub returns-clause-row : goal.returns-clause-row
returns-clause-row c = cleartomark_done c.args.operands.now _ c.in-Some.depth c.in-Some.ensures.found c.discard.ensures

pub returns-clause-kept : goal.returns-clause-kept
returns-clause-kept c = from_dropped _ _ _ c.discard.ensures
