-- What begins as no number is a name.
use Rattle.std.proofs.Common.{◌∙◌, ap, sym}
use Rattle.ps_scan.specs.Numbers.{number_in}
use Rattle.ps_scan.proofs.NumberForms.{word_name}
use Rattle.ps_scan.proofs.numbers.number_of.Goals as goal

pub returns-then-first-ne46 : goal.returns-then-first-ne46
returns-then-first-ne46 c =
    sym (ap number_in (word_name c.args.run.now (sym c.is_digit_byte.ensures
    ∙ c.if-not-is_digit_byte.true) (sym c.is_sign_byte.ensures ∙ c.if-not-is_sign_byte.true) c.if-first-ne46.true))
