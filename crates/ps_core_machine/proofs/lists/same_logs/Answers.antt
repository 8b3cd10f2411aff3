use Rattle.std.proofs.Common.{arith}
use Rattle.ps_core_machine.proofs.ListLemmas.{same_lists}
use Rattle.ps_core_machine.proofs.lists.same_logs.Goals as goal

pub returns : goal.returns
returns c = same_lists c.args.a.now c.args.b.now (omega arith) (λ k lt. c.loop-i.invariant k (omega arith))
