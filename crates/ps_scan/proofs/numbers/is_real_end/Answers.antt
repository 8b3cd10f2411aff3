-- Behind the digits stands an exponent, or a point with a fraction and perhaps an exponent.
use Rattle.std.proofs.Common.{◌∙◌, ap, sym, ◌&&◌, ◌||◌, ◌<◌, length, drop, take, ◌-◌, arith}
use Rattle.std.proofs.lemmas.Bool.{eqb-true, eqb-false}
use Rattle.ps_language.specs.Scan.{is_empty, is_exponent}
use Rattle.ps_scan.proofs.NumberForms.{tail_is, real_none, real_exponent, real_no_fraction, real_some_fraction}
use Rattle.ps_scan.proofs.numbers.is_real_end.Goals as goal

pub returns-then-is_empty : goal.returns-then-is_empty
returns-then-is_empty c =
    sym (real_none c.args.has_digits c.args.text.now (eqb-true _ _ (sym c.is_empty.ensures ∙ c.if-is_empty.true)))

pub returns-then-has_digits : goal.returns-then-has_digits
returns-then-has_digits c = c.is_exponent_text.ensures
    ∙ ap (λ b. b && is_exponent c.args.text.now) (sym c.if-has_digits.true)
    ∙ sym (real_exponent c.args.has_digits c.args.text.now c.if-text-ne46.true)

pub returns-else-has_digits : goal.returns-else-has_digits
returns-else-has_digits c = c.if-has_digits.false
    ∙ ap (λ b. b && is_exponent c.args.text.now) (sym c.if-has_digits.false)
    ∙ sym (real_exponent c.args.has_digits c.args.text.now c.if-text-ne46.true)

pub returns-then-has_digits-2 : goal.returns-then-has_digits-2
returns-then-has_digits-2 c =
    let some : 0 < length c.args.text.now =
    omega (arith, eqb-false _ _ (sym c.is_empty.ensures ∙ c.if-is_empty.false)) in
    let fraction = take (length c.args.text.now - 1) (drop 1 c.args.text.now) in
    c.is_exponent_or_nothing.ensures
    ∙ ap (λ b. b && (is_empty fraction || is_exponent fraction)) (sym c.if-has_digits-2.true)
    ∙ sym (real_no_fraction c.args.has_digits c.args.text.now fraction c.digits_end-end.result some c.if-text-ne46.false
    (tail_is c.args.text.now 1) c.digits_end-end.ensures.rest c.digits_end-end.ensures.high c.if-end-eq0.true)

pub returns-else-has_digits-2 : goal.returns-else-has_digits-2
returns-else-has_digits-2 c =
    let some : 0 < length c.args.text.now =
    omega (arith, eqb-false _ _ (sym c.is_empty.ensures ∙ c.if-is_empty.false)) in
    let fraction = take (length c.args.text.now - 1) (drop 1 c.args.text.now) in
    c.if-has_digits-2.false ∙ ap (λ b. b && (is_empty fraction || is_exponent fraction)) (sym c.if-has_digits-2.false)
    ∙ sym (real_no_fraction c.args.has_digits c.args.text.now fraction c.digits_end-end.result some c.if-text-ne46.false
    (tail_is c.args.text.now 1) c.digits_end-end.ensures.rest c.digits_end-end.ensures.high c.if-end-eq0.true)

pub returns : goal.returns
returns c =
    let some : 0 < length c.args.text.now =
    omega (arith, eqb-false _ _ (sym c.is_empty.ensures ∙ c.if-is_empty.false)) in
    let fraction = take (length c.args.text.now - 1) (drop 1 c.args.text.now) in
    c.is_exponent_or_nothing-2.ensures
    ∙ ap (λ t. is_empty t || is_exponent t) (tail_is fraction c.digits_end-end.result)
    ∙ sym (real_some_fraction c.args.has_digits c.args.text.now fraction c.digits_end-end.result some
    c.if-text-ne46.false (tail_is c.args.text.now 1) c.digits_end-end.ensures.rest c.digits_end-end.ensures.high
    c.if-end-eq0.false)
