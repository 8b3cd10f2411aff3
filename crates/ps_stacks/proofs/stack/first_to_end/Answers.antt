-- Each item takes the place of the one before.
use Rattle.std.proofs.Common.{◌≤◌, arith}
use Rattle.ps_stacks.proofs.Carried.{lowered_on, lowered_next}
use Rattle.ps_stacks.proofs.stack.first_to_end.Goals as goal

pub loop-place-preserved : goal.loop-place-preserved
loop-place-preserved g c =
    let xs = c.args.group.now in
    let some = c.requires.some in
    let here = c.loop-place.invariant in
    let more : 1 ≤ c.loop-place.place = omega (arith, c.loop-place-test.true) in
    record {
      within = omega (arith, here.within);
      stands = lowered_on xs some c.loop-place.place c.loop-place.group c.loop-place.carried more
          here.within here.stands (here.carries more);
      carries = lowered_next xs some c.loop-place.place c.loop-place.group
          c.index-group-place.result here.within here.stands c.index-group-place.is;
    }
