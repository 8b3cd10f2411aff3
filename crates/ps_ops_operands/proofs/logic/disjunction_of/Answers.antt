use Rattle.std.proofs.Common.{◌≡◌, ◌∙◌, Some, None, rules, w32}
use Rattle.std.specs.Prelude.{◌||◌}
use Rattle.std.specs.Int.{int_bit_or}
use Rattle.ps_ops_operands.proofs.LogicRows.{IsBoolean, IsInteger, truths_combine, integers_combine, one_truth, one_number}
use Rattle.ps_ops_operands.proofs.logic.disjunction_of.Goals as goal

pub returns-in_err-b-clause-value : goal.returns-in_err-b-clause-value
returns-in_err-b-clause-value c =
    let lacks : IsBoolean None c.args.right = search rules in
    let none : c.from_residual.result ≡ None = search rules in
    one_truth (λ a b. a || b) (int_bit_or w32) c.args.left c.args.right c.in-Some.a _ c.in-Some.ensures lacks none

pub returns-in-Some-clause-value : goal.returns-in-Some-clause-value
returns-in-Some-clause-value c =
    let both : IsBoolean (Some c.in_ok-b.b) c.args.right = search rules in
    let value : c.if-a.boolean ≡ (c.in-Some.a || c.in_ok-b.b) = search rules in
    truths_combine (λ a b. a || b) (int_bit_or w32) c.args.left c.args.right c.in-Some.a c.in_ok-b.b _ c.in-Some.ensures
    both
    (λ births names. rw value at (c.boolean.ensures.value births names))

pub returns-in_err-j-clause-value : goal.returns-in_err-j-clause-value
returns-in_err-j-clause-value c =
    let some : IsInteger (Some c.in_ok-i.i) c.args.left = search rules in
    let lacks : IsInteger None c.args.right = search rules in
    let none : c.from_residual-in_err-j.result ≡ None = search rules in
    one_number (λ a b. a || b) (int_bit_or w32) c.args.left c.args.right c.in_ok-i.i _ some lacks none

pub returns-clause-value : goal.returns-clause-value
returns-clause-value c =
    let first : IsInteger (Some c.in_ok-i.i) c.args.left = search rules in
    let second : IsInteger (Some c.in_ok-j.j) c.args.right = search rules in
    integers_combine (λ a b. a || b) (int_bit_or w32) c.args.left c.args.right c.in_ok-i.i c.in_ok-j.j _ first second
    (λ births names. c.integer.ensures.value births names ∙ search rules)
