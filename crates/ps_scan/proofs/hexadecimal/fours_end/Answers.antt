-- Four digits, and the place behind them.
use Rattle.std.proofs.Common.{◌≡◌, ◌∙◌, ◌+◌, sym, true, arith}
use Rattle.std.proofs.lemmas.Bool.{lt-ltb}
use Rattle.ps_language.specs.Bytes.{is_hex}
use Rattle.ps_language.proofs.Places.{byte_at}
use Rattle.ps_scan.proofs.HexForms.{four_digits}
use Rattle.ps_scan.proofs.hexadecimal.fours_end.Goals as goal

pub loop-here-preserved : goal.loop-here-preserved
loop-here-preserved c =
    let xs = c.args.bytes.now in
    let i = c.loop-here.here in
    let first : is_hex (byte_at xs i) ≡ true =
    lt-ltb _ 16 (omega (arith, c.hex_value.ensures, c.if-hex_value-ge16.false)) in
    let second : is_hex (byte_at xs (i + 1)) ≡ true =
    lt-ltb _ 16 (omega (arith, c.hex_value-in-loop-here.ensures, c.if-hex_value-ge16-2.false)) in
    let third : is_hex (byte_at xs (i + 2)) ≡ true =
    lt-ltb _ 16 (omega (arith, c.hex_value-in-loop-here-2.ensures, c.if-hex_value-ge16-3.false)) in
    let fourth : is_hex (byte_at xs (i + 3)) ≡ true =
    lt-ltb _ 16 (omega (arith, c.hex_value-in-loop-here-3.ensures, c.if-hex_value-ge16-4.false)) in
    let four = four_digits xs i c.loop-here-test.true first second third fourth in
    record {
      low = omega (arith, c.loop-here.invariant.low);
      high = c.loop-here-test.true;
      count = omega (arith, c.loop-here.invariant.low, c.loop-here.invariant.count, four.0);
      rest = sym four.1 ∙ c.loop-here.invariant.rest;
    }
