-- A lane more, each time.
use Rattle.std.proofs.Common.{◌∙◌, ◌++◌, ap, refl, arith}
use Rattle.ps_timelines.specs.Lanes.{lane_text}
use Rattle.ps_timelines.proofs.Appended.{front_behind}
use Rattle.ps_timelines.proofs.Below.{lane_more, no_lane}
use Rattle.ps_timelines.proofs.pictures.append_lanes.Goals as goal

pub returns-in_err-append_lane-clause-front : goal.returns-in_err-append_lane-clause-front
returns-in_err-append_lane-clause-front c =
    front_behind c.args.to.now.items c.loop-lane.to.items c.append_lane.new.to.items _
    c.loop-lane.invariant.is c.append_lane.ensures.front

pub loop-lane-init : goal.loop-lane-init
loop-lane-init c = record { is = no_lane c.args.scale.steps c.args.to.now.items; next = refl }

pub loop-lane-preserved : goal.loop-lane-preserved
loop-lane-preserved c = record {
  is = lane_more c.args.scale.steps c.loop-lane.y c.args.lanes.now c.loop-lane.lane-index c.lane-item.result c.args.to.now.items
      c.loop-lane.to.items c.append_lane.new.to.items c.loop-lane-test.true c.loop-lane.invariant.next
      c.loop-lane.invariant.is (c.in_ok-append_lane.ensures.appended
      ∙ ap (λ lane. c.loop-lane.to.items ++ lane_text c.args.scale.steps c.loop-lane.y lane) c.lane-item.is);
  next = omega (arith, c.loop-lane.invariant.next);
}
