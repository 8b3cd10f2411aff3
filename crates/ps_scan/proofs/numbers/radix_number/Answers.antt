-- Digits below the base are a radix number; in all other cases there is none.
use Rattle.std.proofs.Common.{◌≡◌, ◌∙◌, ap, sym, to_z, of_z, w32, arith, ◌^◌, true}
use Rattle.std.proofs.lemmas.Bool.{cond-true, cond-false, lt-ltb}
use Rattle.std.proofs.lemmas.Int.{ints}
use Rattle.ps_language.specs.Bytes.{value_in}
use Rattle.ps_language.specs.Reading.{radix_word}
use Rattle.ps_language.specs.Scan.{are_radix_digits}
use Rattle.ps_scan.specs.Numbers.{number_in}
use Rattle.ps_scan.specs.declared.numbers.Number.TheVariants.{Integer}
use Rattle.ps_scan.proofs.NumberForms.{signed_bits, radix_high}
use Rattle.ps_scan.proofs.numbers.radix_number.Goals as goal

pub returns-in-Some-value_of : goal.returns-in-Some-value_of
returns-in-Some-value_of c =
    let n = c.in-Some-value_of.n in
    let base = value_in 10 0 c.args.base_digits.now in
    let same : to_z w32 (of_z w32 c.cast_signed.result) ≡ c.cast_signed.result = omega (arith, ints) in
    let value : n ≡ value_in base 0 c.args.digits.now = c.in-Some-value_of.ensures.some.1
    ∙ ap (λ b. value_in b 0 c.args.digits.now) c.in-Some.ensures.some.1 in
    let holds : are_radix_digits base c.args.digits.now ≡ true =
    ap (λ b. are_radix_digits b c.args.digits.now) (sym c.in-Some.ensures.some.1)
    ∙ sym c.are_digits_of.ensures.value ∙ c.if-are_digits_of.true in
    ap Integer (same ∙ c.cast_signed.ensures ∙ sym (signed_bits n c.in-Some-value_of.ensures.some.0))
    ∙ sym (cond-true _ _ _ (lt-ltb n (2 ^ 32) c.in-Some-value_of.ensures.some.0))
    ∙ ap (λ m. number_in (radix_word m)) value ∙ sym (ap number_in (cond-true _ _ _ holds))

pub returns-in_default-2 : goal.returns-in_default-2
returns-in_default-2 c =
    sym
    (ap number_in (cond-false _ _ _ (radix_high (value_in 10 0 c.args.base_digits.now) c.args.digits.now
    (omega (arith, c.in_default.ensures.none)))))
