-- Each byte of the run takes the scanner on; another byte, or the end of the text, ends it.
use Rattle.std.proofs.Common.{sym, ◌∙◌}
use Rattle.ps_language.specs.Bytes.{is_digit}
use Rattle.ps_language.proofs.Places.{beyond_on, beyond_off, beyond_end}
use Rattle.ps_scan.proofs.spans.digits_end.Goals as goal

pub returns-then-not-is_digit_byte-clause-rest : goal.returns-then-not-is_digit_byte-clause-rest
returns-then-not-is_digit_byte-clause-rest c =
    sym (beyond_off is_digit c.args.bytes.now c.loop-here.here c.loop-here-test.true (sym c.is_digit_byte.ensures
    ∙ c.if-not-is_digit_byte.true)) ∙ c.loop-here.invariant

pub loop-here-preserved : goal.loop-here-preserved
loop-here-preserved c =
    sym (beyond_on is_digit c.args.bytes.now c.loop-here.here c.loop-here-test.true (sym c.is_digit_byte.ensures
    ∙ c.if-not-is_digit_byte.false)) ∙ c.loop-here.invariant

pub returns-clause-rest : goal.returns-clause-rest
returns-clause-rest c = beyond_end is_digit c.args.bytes.now c.loop-here.here c.loop-here-test.false
    ∙ c.loop-here.invariant
