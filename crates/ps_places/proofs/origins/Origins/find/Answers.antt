-- The half in which the last one lies is kept.
use Rattle.std.proofs.Common.{◌≡◌, ◌<◌, ◌≤◌, ◌∙◌, sym, ap, ◌+◌, ◌-◌, ◌/◌, length, Some, arith}
use Rattle.ps_places.specs.Origins.{origin_in}
use Rattle.ps_places.proofs.Rising.{UpTo, Later, up_more, later_more, none_up_to, found_last, found_low}
use Rattle.ps_places.proofs.origins.Origins.find.Goals as goal

pub loop-low-preserved-then-index-birth : goal.loop-low-preserved-then-index-birth
loop-low-preserved-then-index-birth c =
    let items = c.self.inside.list.items in
    let middle = c.loop-low.low + (c.loop-low.high - c.loop-low.low) / 2 in
    let inside : middle < length items = omega (arith, c.loop-low.invariant.high, c.loop-low-test.true) in
    record {
      low = omega (arith, c.loop-low-test.true);
      high = c.loop-low.invariant.high;
      up = up_more c.args.birth items middle c.index.result.now c.self.invariant inside c.index.ensures
          c.if-index-birth.true;
      later = c.loop-low.invariant.later;
    }

pub loop-low-preserved : goal.loop-low-preserved
loop-low-preserved c =
    let items = c.self.inside.list.items in
    let middle = c.loop-low.low + (c.loop-low.high - c.loop-low.low) / 2 in
    let inside : middle < length items = omega (arith, c.loop-low.invariant.high, c.loop-low-test.true) in
    record {
      low = omega arith;
      high = omega (arith, inside);
      up = c.loop-low.invariant.up;
      later = later_more c.args.birth items middle c.index.result.now c.self.invariant inside c.index.ensures
          c.if-index-birth.false;
    }

pub returns-then-low-eq0 : goal.returns-then-low-eq0
returns-then-low-eq0 c =
    let items = c.self.inside.list.items in
    record {
      is = sym (sym (ap (origin_in c.args.birth) c.self.view_is)
          ∙ none_up_to c.args.birth items (λ i d low inside. c.loop-low.invariant.later i d
          (omega (arith, c.if-low-eq0.true, c.loop-low-test.false, low)) inside));
      low = tt;
    }

pub returns : goal.returns
returns c =
    let items = c.self.inside.list.items in
    let high : c.loop-low.low ≤ length items =
    omega (arith, c.loop-low.invariant.low, c.loop-low.invariant.high) in
    let found : origin_in c.args.birth items ≡ Some c.index-2.result.now =
    found_last c.args.birth items c.loop-low.low c.index-2.result.now c.if-low-eq0.false high
    c.loop-low.invariant.up
    (λ i d low inside. c.loop-low.invariant.later i d (omega (arith, low, c.loop-low-test.false)) inside)
    c.index-2.ensures in
    record {
      is = sym (sym (ap (origin_in c.args.birth) c.self.view_is) ∙ found);
      low = found_low c.args.birth items c.index-2.result.now found;
    }
