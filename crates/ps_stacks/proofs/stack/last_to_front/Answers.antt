-- Each item takes the place of the next.
use Rattle.std.proofs.Common.{◌<◌, length, arith}
use Rattle.ps_stacks.proofs.Carried.{raised_on, raised_next}
use Rattle.ps_stacks.proofs.stack.last_to_front.Goals as goal

pub loop-place-preserved : goal.loop-place-preserved
loop-place-preserved g c =
    let xs = c.args.group.now in
    let some = c.requires.some in
    let here = c.loop-place.invariant in
    let size = c.loop-place.auto.place-end in
    let below : c.loop-place.place < length xs = omega (arith, c.loop-place-test.true, size) in
    record {
      within = omega (arith, below);
      stands = raised_on xs some c.loop-place.place c.loop-place.group c.loop-place.carried below
          here.stands (here.carries below);
      carries = raised_next xs some c.loop-place.place c.loop-place.group c.index-group-place.result
          here.stands c.index-group-place.is;
    }
