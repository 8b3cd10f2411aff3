-- The base is in its range, there is a digit, and each is below the base.
use Rattle.std.proofs.Common.{◌∙◌, ap, sym, not, ◌&&◌}
use Rattle.std.specs.List.{list_all}
use Rattle.ps_language.specs.Bytes.{is_digit_in}
use Rattle.ps_scan.proofs.NumberForms.{radix_low, radix_high, radix_within}
use Rattle.ps_scan.proofs.numbers.are_digits_of.Goals as goal

pub returns-then-base-lt2-clause-value : goal.returns-then-base-lt2-clause-value
returns-then-base-lt2-clause-value c = sym (radix_low c.args.base c.args.digits.now c.if-base-lt2.true)

pub returns-then-base-gt36-clause-value : goal.returns-then-base-gt36-clause-value
returns-then-base-gt36-clause-value c = sym (radix_high c.args.base c.args.digits.now c.if-base-gt36.true)

pub returns-then-not-is_empty-clause-value : goal.returns-then-not-is_empty-clause-value
returns-then-not-is_empty-clause-value c = c.are_digits_in.ensures
    ∙ ap (λ b. not b && list_all (is_digit_in c.args.base) c.args.digits.now) (sym c.if-not-is_empty.true
    ∙ c.is_empty.ensures)
    ∙ sym (radix_within c.args.base c.args.digits.now c.if-base-lt2.false c.if-base-gt36.false)

pub returns-else-not-is_empty-clause-value : goal.returns-else-not-is_empty-clause-value
returns-else-not-is_empty-clause-value c = ap not c.if-not-is_empty.false
    ∙ ap (λ b. not b && list_all (is_digit_in c.args.base) c.args.digits.now) (sym c.if-not-is_empty.false
    ∙ c.is_empty.ensures)
    ∙ sym (radix_within c.args.base c.args.digits.now c.if-base-lt2.false c.if-base-gt36.false)
