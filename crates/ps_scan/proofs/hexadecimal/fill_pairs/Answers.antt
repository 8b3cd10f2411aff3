-- Two digits write the next byte.
use Rattle.std.proofs.Common.{◌≡◌, ◌∙◌, ◌+◌, ◌*◌, ◌<◌, length, true, arith}
use Rattle.std.proofs.lemmas.Bool.{lt-ltb}
use Rattle.std.proofs.lemmas.List.{length-set}
use Rattle.ps_language.specs.Bytes.{is_hex, digit_of}
use Rattle.ps_language.proofs.Places.{byte_at}
use Rattle.ps_scan.proofs.HexForms.{pair_put}
use Rattle.ps_scan.proofs.hexadecimal.fill_pairs.Goals as goal

pub loop-pair-preserved : goal.loop-pair-preserved
loop-pair-preserved c =
    let xs = c.args.inner.now in
    let i = c.args.from + 2 * c.loop-pair.pair in
    let k = c.args.count + c.loop-pair.pair in
    let inside : i + 1 < length xs =
    omega (arith, c.loop-pair-test.true, c.min-most.ensures, c.requires.from) in
    let room : k < length c.loop-pair.string.items =
    omega (
      arith,
      c.loop-pair-test.true,
      c.min-most.ensures,
      c.len.ensures,
      c.args.string.now.ok.0,
      c.loop-pair.invariant.long,
    ) in
    let high : c.hex_value-high.result ≡ digit_of (byte_at xs i) =
    omega (arith, c.hex_value-high.ensures, c.if-high-ge16.false) in
    let low : c.hex_value-low.result ≡ digit_of (byte_at xs (i + 1)) =
    omega (arith, c.hex_value-low.ensures, c.if-low-ge16.false) in
    let first : is_hex (byte_at xs i) ≡ true =
    lt-ltb _ 16 (omega (arith, high, c.if-high-ge16.false)) in
    let second : is_hex (byte_at xs (i + 1)) ≡ true =
    lt-ltb _ 16 (omega (arith, low, c.if-low-ge16.false)) in
    record {
      long = length-set c.loop-pair.string.items k _ ∙ c.loop-pair.invariant.long;
      whole = pair_put c.loop-pair.string.items xs k i c.hex_value-high.result
          c.hex_value-low.result room inside first second high low _ _
          (omega arith) (omega arith) ∙ c.loop-pair.invariant.whole;
    }
