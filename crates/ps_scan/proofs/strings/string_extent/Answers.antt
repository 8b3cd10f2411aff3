-- Each part adds its byte, if it gives one, to the extent.
use Rattle.std.proofs.Common.{◌≡◌, ◌∙◌, refl, sym, ap, ◌+◌, ◌-◌, ◌∷◌, [], drop, arith}
use Rattle.std.specs.List.{slice_range}
use Rattle.std.specs.Prelude.{option_to_list}
use Rattle.ps_language.proofs.StringPlaces.{string_no_end}
use Rattle.ps_scan.specs.Strings.{extent_of}
use Rattle.ps_scan.proofs.StringForms.{opens_at, closes_at, over_at, extent_more, extent_over, no_extent}
use Rattle.ps_scan.proofs.ReadingForms.{length_slice}
use Rattle.ps_language.specs.Scan.{string_from}
use Rattle.ps_scan.proofs.strings.string_extent.Goals as goal

pub loop-here-preserved-then-byte-eq40 : goal.loop-here-preserved-then-byte-eq40
loop-here-preserved-then-byte-eq40 c = record {
  low = omega arith;
  high = omega arith;
  depth = omega arith;
  length = omega arith;
  extent = extent_more c.loop-here.length (c.loop-here.length + 1) (40 ∷ []) _ _
      (opens_at c.loop-here.depth c.args.bytes.now c.loop-here.here c.loop-here-test.true c.if-byte-eq40.true) refl
      ∙ c.loop-here.invariant.extent;
}

pub returns-then-depth-eq0-clause-some : goal.returns-then-depth-eq0-clause-some
returns-then-depth-eq0-clause-some c = sym c.loop-here.invariant.extent
    ∙ extent_over c.loop-here.length _ _
    (over_at c.loop-here.depth c.args.bytes.now c.loop-here.here c.if-depth-eq0.true c.loop-here-test.true
    c.if-byte-eq41.true)

pub loop-here-preserved-then-byte-eq41 : goal.loop-here-preserved-then-byte-eq41
loop-here-preserved-then-byte-eq41 c = record {
  low = omega arith;
  high = omega arith;
  depth = omega arith;
  length = omega arith;
  extent = extent_more c.loop-here.length (c.loop-here.length + 1) (41 ∷ []) _ _
      (closes_at c.loop-here.depth c.args.bytes.now c.loop-here.here c.if-depth-eq0.false c.loop-here-test.true
      c.if-byte-eq41.true) refl ∙ c.loop-here.invariant.extent;
}

pub loop-here-preserved : goal.loop-here-preserved
loop-here-preserved c =
    let xs = c.args.bytes.now in
    let part = c.in_ok-part.part in
    let end = c.plain_end-end.result in
    let so_far = c.loop-here.length + c.bytes_in.result in
    let low = c.plain_end-end.ensures.low in
    let high = c.plain_end-end.ensures.high in
    let few = c.bytes_in.ensures.few in
    let run = length_slice xs part.next end high in
    let more : c.loop-here.length + (c.bytes_in.result + (end - part.next)) ≡ so_far + (end - part.next) =
    omega arith in
    record {
      low = omega (arith, c.in_ok-part.ensures.place, low);
      high = high;
      depth = omega (arith, c.in_ok-part.ensures.place, low);
      length = omega (arith, c.in_ok-part.ensures.place, low, few);
      extent = ap (λ n. extent_of n (string_from c.loop-here.depth (drop end xs))) more
          ∙ extent_more so_far (so_far + (end - part.next)) (slice_range xs part.next end) _ _
          (c.plain_end-end.ensures.rest c.loop-here.depth) (ap (λ n. so_far + n) run)
          ∙ extent_more c.loop-here.length so_far (option_to_list part.byte) _ _
          (c.in_ok-part.ensures.part c.loop-here.depth)
          (ap (λ n. c.loop-here.length + n) (sym c.bytes_in.ensures.count))
          ∙ c.loop-here.invariant.extent;
    }

pub returns-clause-none : goal.returns-clause-none
returns-clause-none c = no_extent _ (sym c.loop-here.invariant.extent
    ∙ ap (extent_of c.loop-here.length)
    (string_no_end c.loop-here.depth c.args.bytes.now c.loop-here.here c.loop-here-test.false))
