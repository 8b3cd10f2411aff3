-- There is a digit, and each byte is one.
use Rattle.std.proofs.Common.{◌∙◌, ap, sym, not, ◌&&◌}
use Rattle.std.specs.List.{list_all}
use Rattle.ps_language.specs.Bytes.{is_digit}
use Rattle.ps_scan.proofs.NumberForms.{are_digits_at}
use Rattle.ps_scan.proofs.numbers.are_decimal_digits.Goals as goal

pub returns-then-not-is_empty : goal.returns-then-not-is_empty
returns-then-not-is_empty c = c.are_digits_in.ensures
    ∙ ap (λ b. not b && list_all is_digit c.args.digits.now) (sym c.if-not-is_empty.true ∙ c.is_empty.ensures)
    ∙ sym (are_digits_at c.args.digits.now)

pub returns-else-not-is_empty : goal.returns-else-not-is_empty
returns-else-not-is_empty c = ap not c.if-not-is_empty.false
    ∙ ap (λ b. not b && list_all is_digit c.args.digits.now) (sym c.if-not-is_empty.false ∙ c.is_empty.ensures)
    ∙ sym (are_digits_at c.args.digits.now)
