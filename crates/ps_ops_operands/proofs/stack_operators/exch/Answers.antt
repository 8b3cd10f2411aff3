use Rattle.std.proofs.Common.{refl}
use Rattle.ps_ops_operands.proofs.Sources.{from_rotated}
use Rattle.ps_ops_operands.proofs.stack_operators.exch.Goals as goal

pub returns-clause-kept : goal.returns-clause-kept
returns-clause-kept c = from_rotated _ _ c.args.operands.now 2 1 0 refl c.rotate.ensures
