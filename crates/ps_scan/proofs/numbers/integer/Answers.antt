-- Digits that fit 32 bits are an integer with its sign; the others are past the limits.
use Rattle.std.proofs.Common.{◌≡◌, ◌∙◌, ap, sym, pos, neg_ℤ, ◌-ℤ◌, to_z, of_z, w64, arith}
use Rattle.std.proofs.lemmas.Bool.{cond-false}
use Rattle.std.proofs.lemmas.Int.{ints}
use Rattle.ps_language.specs.Bytes.{value_in}
use Rattle.ps_language.specs.Reading.{integer_word}
use Rattle.ps_language.specs.Scan.{signed_value}
use Rattle.ps_scan.specs.Numbers.{number_in}
use Rattle.ps_scan.proofs.NumberForms.{large_past, signed_minus, signed_plus}
use Rattle.ps_scan.proofs.numbers.integer.Goals as goal

pub returns-in-Some : goal.returns-in-Some
returns-in-Some c =
    let minus : to_z w64 (of_z w64 (pos 0 -ℤ to_z w64 c.in-Some.n)) ≡ neg_ℤ (pos c.in-Some.n) =
    omega (arith, ints, c.in-Some.ensures.some) in
    c.fitted.ensures ∙ ap (λ z. number_in (integer_word z)) (minus ∙ sym (signed_minus c.in-Some.n)
    ∙ ap (λ b. signed_value b c.in-Some.n) (sym c.if-is_negative.true)
    ∙ ap (signed_value c.args.is_negative) c.in-Some.ensures.some.1)

pub returns-in-Some-2 : goal.returns-in-Some-2
returns-in-Some-2 c =
    let plus : to_z w64 c.in-Some-2.n ≡ pos c.in-Some-2.n = omega (arith, ints, c.in-Some-2.ensures.some) in
    c.fitted-in-Some-2.ensures ∙ ap (λ z. number_in (integer_word z)) (ap (to_z w64) c.in-Some-2.n-is ∙ plus
    ∙ sym (signed_plus c.in-Some-2.n) ∙ ap (λ b. signed_value b c.in-Some-2.n) (sym c.if-is_negative.false)
    ∙ ap (signed_value c.args.is_negative) c.in-Some-2.ensures.some.1)

pub returns-in-None : goal.returns-in-None
returns-in-None c =
    sym (cond-false _ _ _ (large_past c.args.is_negative (value_in 10 0 c.args.digits.now) c.in-None.ensures.none))
