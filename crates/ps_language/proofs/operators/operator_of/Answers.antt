-- No operator has the number.
use Rattle.std.proofs.Common.{arith}
use Rattle.ps_language.proofs.Numbers.{operator_past}
use Rattle.ps_language.proofs.operators.operator_of.Goals as goal

pub returns-then-number-ge-OPERATORS : goal.returns-then-number-ge-OPERATORS
returns-then-number-ge-OPERATORS c =
    let past = c.if-number-ge-OPERATORS.true in operator_past c.args.number (omega (arith, past))
