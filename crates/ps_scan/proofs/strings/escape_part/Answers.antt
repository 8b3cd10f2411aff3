-- What stands behind a backslash.
use Rattle.std.proofs.Common.{◌≡◌, true, arith}
use Rattle.std.proofs.lemmas.Bool.{lt-ltb}
use Rattle.ps_language.specs.Bytes.{is_octal}
use Rattle.ps_language.proofs.Places.{byte_at}
use Rattle.ps_scan.proofs.StringForms.{escape_at_end, octal_part, feed_part, return_part, byte_part}
use Rattle.ps_scan.proofs.strings.escape_part.Goals as goal

pub returns-then-at-bytes-clause-part : goal.returns-then-at-bytes-clause-part
returns-then-at-bytes-clause-part c depth = escape_at_end c.args.bytes.now c.args.at c.if-at-bytes.true depth

pub returns-then-digit_value-lt8-clause-part : goal.returns-then-digit_value-lt8-clause-part
returns-then-digit_value-lt8-clause-part c depth =
    let digit : is_octal (byte_at c.args.bytes.now c.args.at) ≡ true =
    lt-ltb _ 8 (omega (arith, c.digit_value.ensures.value, c.if-digit_value-lt8.true)) in
    octal_part c.args.bytes.now c.args.at c.octal_part.result.byte _
    (omega (arith, c.if-at-bytes.false)) digit c.octal_part.ensures.byte c.octal_part.ensures.rest depth

pub returns-then-letter-eq10-clause-part : goal.returns-then-letter-eq10-clause-part
returns-then-letter-eq10-clause-part c depth =
    feed_part c.args.bytes.now c.args.at (omega (arith, c.if-at-bytes.false)) c.if-letter-eq10.true depth

pub returns-then-letter-eq13-clause-part : goal.returns-then-letter-eq13-clause-part
returns-then-letter-eq13-clause-part c depth =
    return_part c.args.bytes.now c.args.at _ (omega (arith, c.if-at-bytes.false)) c.if-letter-eq13.true
    c.return_end.ensures.rest depth

pub returns-clause-part : goal.returns-clause-part
returns-clause-part c depth =
    byte_part c.args.bytes.now c.args.at c.letter_byte.result
    (omega (arith, c.if-at-bytes.false)) c.letter_byte.ensures depth
