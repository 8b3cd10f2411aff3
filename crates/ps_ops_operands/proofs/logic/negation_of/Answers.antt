use Rattle.std.proofs.Common.{◌∙◌, Some, rules}
use Rattle.ps_ops_operands.proofs.LogicRows.{IsInteger, truth_negates, integer_negates}
use Rattle.ps_ops_operands.proofs.logic.negation_of.Goals as goal

pub returns-in-Some-clause-value : goal.returns-in-Some-clause-value
returns-in-Some-clause-value c =
    truth_negates c.args.operand c.in-Some.a _ c.in-Some.ensures (λ births names. c.boolean.ensures.value births names)

pub returns-clause-value : goal.returns-clause-value
returns-clause-value c =
    let some : IsInteger (Some c.in_ok-i.i) c.args.operand = search rules in
    integer_negates c.args.operand c.in_ok-i.i _ some (λ births names. c.integer.ensures.value births names
    ∙ search rules)
