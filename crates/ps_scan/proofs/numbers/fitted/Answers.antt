-- An integer fits where it is in the range of 32 bits.
use Rattle.std.proofs.Common.{◌≡◌, ap, sym, ◌∙◌, to_z, of_z, w32, w64, arith}
use Rattle.std.proofs.lemmas.Bool.{cond-true, cond-false}
use Rattle.std.proofs.lemmas.Int.{ints}
use Rattle.ps_scan.specs.declared.numbers.Number.TheVariants.{Integer}
use Rattle.ps_scan.proofs.NumberForms.{fits_low, fits_past_low, fits_past_high}
use Rattle.ps_scan.proofs.numbers.fitted.Goals as goal

pub returns-then-number-ltminus2147483648 : goal.returns-then-number-ltminus2147483648
returns-then-number-ltminus2147483648 c = sym (cond-false _ _ _ (fits_past_low c.args.number (omega (arith, ints))))

pub returns-then-number-gt2147483647 : goal.returns-then-number-gt2147483647
returns-then-number-gt2147483647 c = sym (cond-false _ _ _ (fits_past_high c.args.number (omega (arith, ints))))

pub returns : goal.returns
returns c =
    let same : to_z w32 (of_z w32 (to_z w64 (of_z w64 c.args.number))) ≡ c.args.number = omega (arith, ints) in
    ap Integer same ∙ sym (cond-true _ _ _ (fits_low c.args.number (omega (arith, ints)) (omega (arith, ints))))
