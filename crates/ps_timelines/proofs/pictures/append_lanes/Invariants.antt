use Rattle.std.proofs.Common.{◌≡◌, ◌+◌, ◌*◌, ◌++◌, take}
use Rattle.ps_timelines.specs.Pictures.{lanes_text}
use Rattle.ps_timelines.proofs.pictures.append_lanes.Given as goal

-- the lanes so far came behind what stood before, and it is known where the next one begins
abbrev pub invariant-loop-lane : goal.invariant-loop-lane
invariant-loop-lane l = record {
  is : l.to.items ≡ l.initial.to.items ++ lanes_text l.scale.steps 70 (take l.lane-index l.lanes);
  next : l.y ≡ 70 + 48 * l.lane-index;
}
