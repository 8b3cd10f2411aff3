-- Each part adds its byte, if it gives one, to the string.
use Rattle.std.proofs.Common.{◌∙◌, ap, ◌∷◌, [], ◌++◌, drop, arith}
use Rattle.std.specs.Prelude.{option_to_list}
use Rattle.std.specs.List.{slice_range}
use Rattle.ps_language.specs.Reading.{with_front}
use Rattle.ps_language.specs.Scan.{string_from}
use Rattle.ps_language.proofs.StringPlaces.{string_no_end}
use Rattle.ps_scan.proofs.StringForms.{opens_at, closes_at, over_at, front_more, no_front, front_over, front_unfinished}
use Rattle.ps_scan.proofs.strings.string_bytes.Goals as goal
use Rattle.ps_scan.proofs.strings.string_bytes.Goals.{else-loop-here-test}
use Rattle.ps_scan.proofs.strings.string_bytes.Goals.{then-loop-here-test+else-byte-eq40+then-byte-eq41+then-level-eq0}
use Rattle.ps_scan.proofs.strings.string_bytes.Goals.{then-loop-here-test+else-byte-eq40+else-byte-eq41+in-None}

pub loop-here-init : goal.loop-here-init
loop-here-init c = record {
  high = c.requires;
  level = omega arith;
  whole = ap (λ v. with_front v (string_from 0 (drop c.args.at c.args.bytes.now))) c.in_ok-string.ensures.items
      ∙ no_front (string_from 0 (drop c.args.at c.args.bytes.now));
}

pub loop-here-preserved-then-byte-eq40 : goal.loop-here-preserved-then-byte-eq40
loop-here-preserved-then-byte-eq40 c = record {
  high = omega arith;
  level = omega arith;
  whole = front_more c.loop-here.string.items c.push.new.self.items (40 ∷ []) _ _
      (opens_at c.loop-here.level c.args.bytes.now c.loop-here.here c.loop-here-test.true c.if-byte-eq40.true)
      (c.in_ok-push.ensures.items ∙ ap (λ b. c.loop-here.string.items ++ b ∷ []) c.if-byte-eq40.true)
      ∙ c.loop-here.invariant.whole;
}

pub loop-here-preserved-then-byte-eq41 : goal.loop-here-preserved-then-byte-eq41
loop-here-preserved-then-byte-eq41 c = record {
  high = omega arith;
  level = omega arith;
  whole = front_more c.loop-here.string.items c.push-then-byte-eq41.new.self.items (41 ∷ []) _ _
      (closes_at c.loop-here.level c.args.bytes.now c.loop-here.here c.if-level-eq0.false c.loop-here-test.true
      c.if-byte-eq41.true)
      (c.in_ok-push-2.ensures.items ∙ ap (λ b. c.loop-here.string.items ++ b ∷ []) c.if-byte-eq41.true)
      ∙ c.loop-here.invariant.whole;
}

pub loop-here-preserved : goal.loop-here-preserved
loop-here-preserved c =
    let xs = c.args.bytes.now in
    let part = c.in-Some.part in
    let end = c.plain_end-end.result in
    let low = c.plain_end-end.ensures.low in
    let level = c.loop-here.level in
    let middle = c.push_part.new.string.items in
    record {
      high = c.plain_end-end.ensures.high;
      level = omega (arith, c.in-Some.ensures.place, low);
      whole = front_more middle c.extend_from_slice.new.self.items (slice_range xs part.next end) _ _
          (c.plain_end-end.ensures.rest level) c.in_ok-extend_from_slice-in-Some.ensures.items
          ∙ front_more c.loop-here.string.items middle (option_to_list part.byte) _ _
          (c.in-Some.ensures.part level) c.in_ok-push_part-in-Some.ensures
          ∙ c.loop-here.invariant.whole;
    }

pub returns : goal.returns
returns c value rest e = elim c.loop-here-test.branch [
  | else-loop-here-test w ↦ front_unfinished _ value rest _ _
      (string_no_end c.loop-here.level c.args.bytes.now c.loop-here.here w.loop-here-test.false)
      c.loop-here.invariant.whole e
  | then-loop-here-test+else-byte-eq40+then-byte-eq41+then-level-eq0 w ↦ front_over _ value rest _ _ _
      (over_at c.loop-here.level c.args.bytes.now c.loop-here.here w.if-level-eq0.true w.loop-here-test.true
      w.if-byte-eq41.true) c.loop-here.invariant.whole e
  | then-loop-here-test+else-byte-eq40+else-byte-eq41+in-None w ↦ front_unfinished _ value rest _ _
      (w.in-None.ensures.part c.loop-here.level) c.loop-here.invariant.whole e
]
