-- A mark and digits behind a sign, if there is one.
use Rattle.std.proofs.Common.{◌∙◌, ap, sym, ◌&&◌, ◌<◌, length, arith}
use Rattle.std.proofs.lemmas.Bool.{eqb-true, eqb-false}
use Rattle.ps_language.specs.Scan.{unsigned, are_digits}
use Rattle.ps_scan.proofs.NumberForms.{tail_is, exponent_none, exponent_at}
use Rattle.ps_scan.proofs.numbers.is_exponent_text.Goals as goal

pub returns-then-is_empty : goal.returns-then-is_empty
returns-then-is_empty c =
    sym (exponent_none c.args.text.now (eqb-true _ _ (sym c.is_empty.ensures ∙ c.if-is_empty.true)))

pub returns-then-begins_exponent : goal.returns-then-begins_exponent
returns-then-begins_exponent c =
    let some : 0 < length c.args.text.now =
    omega (arith, eqb-false _ _ (sym c.is_empty.ensures ∙ c.if-is_empty.false)) in
    c.are_decimal_digits.ensures ∙ ap are_digits (c.behind_sign.ensures ∙ ap unsigned (tail_is c.args.text.now 1))
    ∙ ap (λ b. b && are_digits (unsigned (Rattle.std.proofs.Common.drop 1 c.args.text.now)))
    (sym c.if-begins_exponent.true ∙ c.begins_exponent.ensures) ∙ sym (exponent_at c.args.text.now some)

pub returns-else-begins_exponent : goal.returns-else-begins_exponent
returns-else-begins_exponent c =
    let some : 0 < length c.args.text.now =
    omega (arith, eqb-false _ _ (sym c.is_empty.ensures ∙ c.if-is_empty.false)) in
    c.if-begins_exponent.false
    ∙ ap (λ b. b && are_digits (unsigned (Rattle.std.proofs.Common.drop 1 c.args.text.now)))
    (sym c.if-begins_exponent.false ∙ c.begins_exponent.ensures) ∙ sym (exponent_at c.args.text.now some)
