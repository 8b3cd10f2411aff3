-- Each byte takes the scanner on; where none is blank, or none is left, what is left is what was
-- looked for.
use Rattle.std.proofs.Common.{sym, ◌∙◌, arith, false}
use Rattle.std.proofs.lemmas.List.{at_drop_all}
use Rattle.ps_language.proofs.Places.{blank_percent, blank_white, blank_none, blank_end}
use Rattle.ps_scan.proofs.spans.blank_end.Goals as goal

pub returns-else-b-eq37-clause-rest : goal.returns-else-b-eq37-clause-rest
returns-else-b-eq37-clause-rest c =
    sym (blank_none c.args.bytes.now c.loop-here.here c.loop-here-test.true (sym c.is_white_byte.ensures
    ∙ c.if-is_white_byte.false) c.if-b-eq37.false)
    ∙ c.loop-here.invariant.rest

pub returns-clause-rest : goal.returns-clause-rest
returns-clause-rest c =
    at_drop_all (λ x. x) c.args.bytes.now c.loop-here.here c.loop-here-test.false
    ∙ sym (blank_end false c.args.bytes.now c.loop-here.here c.loop-here-test.false) ∙ c.loop-here.invariant.rest

pub loop-here-preserved : goal.loop-here-preserved
loop-here-preserved c = record {
  low = omega (arith, c.comment_end-here.ensures.low, c.loop-here.invariant.low);
  high = c.comment_end-here.ensures.high;
  rest = c.comment_end-here.ensures.rest
      ∙ sym (blank_percent c.args.bytes.now c.loop-here.here c.loop-here-test.true c.if-b-eq37.true)
      ∙ c.loop-here.invariant.rest;
}

pub loop-here-preserved-then-is_white_byte : goal.loop-here-preserved-then-is_white_byte
loop-here-preserved-then-is_white_byte c = record {
  low = omega (arith, c.loop-here.invariant.low);
  high = omega (arith, c.loop-here-test.true);
  rest = sym (blank_white c.args.bytes.now c.loop-here.here c.loop-here-test.true (sym c.is_white_byte.ensures
      ∙ c.if-is_white_byte.true))
      ∙ c.loop-here.invariant.rest;
}
