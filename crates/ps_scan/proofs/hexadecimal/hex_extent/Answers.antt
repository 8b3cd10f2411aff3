-- A hexadecimal string that is unfinished, broken, too long, or has an extent.
use Rattle.std.proofs.Common.{◌≡◌, ◌∙◌, ap, ◌+◌, ◌-◌, ◌<◌, length, drop, filter, arith}
use Rattle.std.specs.List.{slice_range}
use Rattle.ps_language.specs.Bytes.{is_hex}
use Rattle.ps_language.specs.Reading.{pairs, sized_string}
use Rattle.ps_scan.proofs.StringForms.{sized_short, sized_long}
use Rattle.ps_scan.proofs.HexForms.{angle_end, hex_string_at, hex_no_end, hex_bad_byte, hex_size}
use Rattle.ps_scan.proofs.hexadecimal.hex_extent.Goals as goal

pub returns-then-at-bytes-clause-sized : goal.returns-then-at-bytes-clause-sized
returns-then-at-bytes-clause-sized c = angle_end c.args.bytes.now c.args.at c.if-at-bytes.true

pub returns-then-digits-bytes-clause-sized : goal.returns-then-digits-bytes-clause-sized
returns-then-digits-bytes-clause-sized c =
    let inside : c.args.at < length c.args.bytes.now = omega (arith, c.if-at-bytes.false) in
    hex_no_end c.args.bytes.now c.args.at _ inside
    (c.requires.digit inside) c.hex_digits-digits.ensures.rest c.if-digits-bytes.true

pub returns-then-bytes-digits-ne62-clause-sized : goal.returns-then-bytes-digits-ne62-clause-sized
returns-then-bytes-digits-ne62-clause-sized c =
    let inside : c.args.at < length c.args.bytes.now = omega (arith, c.if-at-bytes.false) in
    hex_bad_byte c.args.bytes.now c.args.at _ inside (c.requires.digit inside) c.hex_digits-digits.ensures.rest
    (omega (arith, c.if-digits-bytes.false)) c.if-bytes-digits-ne62.true

pub returns-then-length-gt-SEQUENCE_LIMIT-clause-sized : goal.returns-then-length-gt-SEQUENCE_LIMIT-clause-sized
returns-then-length-gt-SEQUENCE_LIMIT-clause-sized c =
    let xs = c.args.bytes.now in
    let end = c.hex_digits-digits.result.end in
    let digits = c.hex_digits-digits.ensures in
    let inside : c.args.at < length xs = omega (arith, c.if-at-bytes.false) in
    let closed : end < length xs = omega (arith, c.if-digits-bytes.false) in
    let value = pairs (filter is_hex (slice_range xs c.args.at end)) in
    hex_string_at xs c.args.at end inside (c.requires.digit inside) digits.rest digits.low closed
    c.if-bytes-digits-ne62.false
    ∙ sized_long value (drop (end + 1) xs)
    (omega (
      arith,
      hex_size xs c.args.at end c.hex_digits-digits.result.count digits.rest digits.low digits.high digits.count,
      c.if-length-gt-SEQUENCE_LIMIT.true,
    ))

pub returns-clause-sized : goal.returns-clause-sized
returns-clause-sized c =
    let xs = c.args.bytes.now in
    let end = c.hex_digits-digits.result.end in
    let digits = c.hex_digits-digits.ensures in
    let inside : c.args.at < length xs = omega (arith, c.if-at-bytes.false) in
    let closed : end < length xs = omega (arith, c.if-digits-bytes.false) in
    let value = pairs (filter is_hex (slice_range xs c.args.at end)) in
    let size = hex_size xs c.args.at end c.hex_digits-digits.result.count digits.rest digits.low digits.high
    digits.count in (
      value,
      hex_string_at xs c.args.at end inside (c.requires.digit inside) digits.rest digits.low closed
          c.if-bytes-digits-ne62.false
          ∙ sized_short value (drop (end + 1) xs) (omega (arith, size, c.if-length-gt-SEQUENCE_LIMIT.false)),
      size,
      c.if-length-gt-SEQUENCE_LIMIT.false,
      omega (arith, digits.low),
      omega (arith, closed),
    )

pub returns-clause-inner : goal.returns-clause-inner
returns-clause-inner c =
    let xs = c.args.bytes.now in
    let end = c.hex_digits-digits.result.end in
    let digits = c.hex_digits-digits.ensures in
    let inside : c.args.at < length xs = omega (arith, c.if-at-bytes.false) in
    let closed : end < length xs = omega (arith, c.if-digits-bytes.false) in
    let before : end ≡ end + 1 - 1 = omega arith in (
      omega (arith, digits.low),
      hex_string_at xs c.args.at end inside (c.requires.digit inside) digits.rest digits.low closed
          c.if-bytes-digits-ne62.false
          ∙ ap (λ n. sized_string (pairs (filter is_hex (slice_range xs c.args.at n))) (drop (end + 1) xs)) before,
    )
