-- Digits count, white space is passed over, another byte ends them.
use Rattle.std.proofs.Common.{◌≡◌, ◌∙◌, length, drop, ap, sym, true, false, arith}
use Rattle.std.proofs.lemmas.Bool.{lt-ltb, le-ltb}
use Rattle.ps_language.specs.Bytes.{is_hex, is_hex_or_white}
use Rattle.ps_language.proofs.Places.{byte_at, beyond_on, beyond_off, beyond_end}
use Rattle.ps_scan.proofs.HexForms.{hex_or_white_digit, hex_or_white_white, hex_or_white_none, digits_on, digits_white}
use Rattle.ps_scan.proofs.HexForms.{digits_off, digits_end}
use Rattle.ps_scan.proofs.hexadecimal.hex_digits.Goals as goal

pub loop-here-preserved-then-hex_value-lt16 : goal.loop-here-preserved-then-hex_value-lt16
loop-here-preserved-then-hex_value-lt16 c =
    let xs = c.args.bytes.now in
    let here = c.loop-here.here in
    let test = c.loop-here-test.true in
    let digit : is_hex (byte_at xs here) ≡ true =
    lt-ltb _ 16 (omega (arith, c.hex_value.ensures, c.if-hex_value-lt16.true)) in
    record {
      few = omega (arith, c.loop-here.invariant.few);
      high = omega (arith, test);
      count = omega (arith, c.loop-here.invariant.count, digits_on xs here test digit);
      rest = sym (beyond_on is_hex_or_white xs here test (hex_or_white_digit (byte_at xs here) digit))
          ∙ c.loop-here.invariant.rest;
    }

pub loop-here-preserved : goal.loop-here-preserved
loop-here-preserved c =
    let xs = c.args.bytes.now in
    let here = c.loop-here.here in
    let test = c.loop-here-test.true in
    let digit : is_hex (byte_at xs here) ≡ false =
    le-ltb _ 16 (omega (arith, c.hex_value.ensures, c.if-hex_value-lt16.false)) in
    let white = sym c.is_white_byte.ensures ∙ c.if-is_white_byte.true in
    let more = c.fours_end-here-then-is_white_byte.ensures in
    record {
      few = omega (arith, c.loop-here.invariant.few, more.low);
      high = more.high;
      count = omega (
        arith,
        c.loop-here.invariant.count,
        digits_white xs here test digit white,
        more.low,
        more.count,
      );
      rest = more.rest
          ∙ sym (beyond_on is_hex_or_white xs here test (hex_or_white_white (byte_at xs here) white))
          ∙ c.loop-here.invariant.rest;
    }

pub returns-else-is_white_byte-clause-count : goal.returns-else-is_white_byte-clause-count
returns-else-is_white_byte-clause-count c =
    let xs = c.args.bytes.now in
    let here = c.loop-here.here in
    let digit : is_hex (byte_at xs here) ≡ false =
    le-ltb _ 16 (omega (arith, c.hex_value.ensures, c.if-hex_value-lt16.false)) in
    omega (
      arith,
      c.loop-here.invariant.few,
      c.loop-here.invariant.count,
      digits_off xs here c.loop-here-test.true digit
          (sym c.is_white_byte.ensures ∙ c.if-is_white_byte.false),
    )

pub returns-else-is_white_byte-clause-rest : goal.returns-else-is_white_byte-clause-rest
returns-else-is_white_byte-clause-rest c =
    let xs = c.args.bytes.now in
    let here = c.loop-here.here in
    let digit : is_hex (byte_at xs here) ≡ false =
    le-ltb _ 16 (omega (arith, c.hex_value.ensures, c.if-hex_value-lt16.false)) in
    sym (beyond_off is_hex_or_white xs here c.loop-here-test.true
    (hex_or_white_none (byte_at xs here) digit
    (sym c.is_white_byte.ensures ∙ c.if-is_white_byte.false)))
    ∙ c.loop-here.invariant.rest

pub returns-clause-count : goal.returns-clause-count
returns-clause-count c = omega (
  arith,
  c.loop-here.invariant.few,
  c.loop-here.invariant.count,
  digits_end c.args.bytes.now c.loop-here.here c.loop-here-test.false,
)

pub returns-clause-rest : goal.returns-clause-rest
returns-clause-rest c =
    let xs = c.args.bytes.now in
    let ends : c.loop-here.here ≡ length xs =
    omega (arith, c.loop-here.invariant.high, c.loop-here-test.false) in
    ap (λ n. drop n xs) ends
    ∙ beyond_end is_hex_or_white xs c.loop-here.here c.loop-here-test.false
    ∙ c.loop-here.invariant.rest
