use Rattle.ps_ops_operands.proofs.Marks.{IsBehind}
use Rattle.ps_ops_operands.proofs.stack_operators.mark_depth.Given as goal

-- the search goes on behind the operands that were passed
abbrev pub invariant-loop-depth : goal.invariant-loop-depth
invariant-loop-depth l = IsBehind l.operands l.depth
