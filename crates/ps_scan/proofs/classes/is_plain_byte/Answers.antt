-- A byte that is none of the four.
use Rattle.std.proofs.Common.{arith}
use Rattle.ps_scan.proofs.StringForms.{plain_mark}
use Rattle.ps_scan.proofs.classes.is_plain_byte.Goals as goal

pub returns-then-b-gt41 : goal.returns-then-b-gt41
returns-then-b-gt41 c = λ _. plain_mark c.args.b (omega arith) (omega arith) (omega arith) (omega arith)

pub returns-else-b-eq13 : goal.returns-else-b-eq13
returns-else-b-eq13 c = λ _. plain_mark c.args.b (omega arith) (omega arith) (omega arith) (omega arith)
