-- Each byte of the comment takes the scanner on; its end, or that of the text, ends it.
use Rattle.std.proofs.Common.{◌+◌, drop, sym, ap, ◌∙◌, not, false, true, arith}
use Rattle.ps_language.specs.Scan.{behind_blank}
use Rattle.ps_language.proofs.Places.{blank_in_comment, blank_end}
use Rattle.ps_scan.proofs.spans.comment_end.Goals as goal

pub returns-then-ends_comment-clause-rest : goal.returns-then-ends_comment-clause-rest
returns-then-ends_comment-clause-rest c =
    ap (λ k. behind_blank k (drop (c.loop-here.here + 1) c.args.bytes.now))
    (ap not (sym (sym c.ends_comment.ensures ∙ c.if-ends_comment.true)))
    ∙ sym (blank_in_comment c.args.bytes.now c.loop-here.here c.loop-here-test.true) ∙ c.loop-here.invariant.rest

pub loop-here-preserved : goal.loop-here-preserved
loop-here-preserved c = record {
  low = omega arith;
  high = omega arith;
  rest = ap (λ k. behind_blank k (drop (c.loop-here.here + 1) c.args.bytes.now))
      (ap not (sym (sym c.ends_comment.ensures ∙ c.if-ends_comment.false)))
      ∙ sym (blank_in_comment c.args.bytes.now c.loop-here.here c.loop-here-test.true) ∙ c.loop-here.invariant.rest;
}

pub returns-clause-rest : goal.returns-clause-rest
returns-clause-rest c =
    blank_end false c.args.bytes.now c.loop-here.here c.loop-here-test.false
    ∙ sym (blank_end true c.args.bytes.now c.loop-here.here c.loop-here-test.false) ∙ c.loop-here.invariant.rest
