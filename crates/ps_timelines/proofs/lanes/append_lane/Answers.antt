-- Its parts one behind another.
use Rattle.std.proofs.Common.{◌∙◌, ◌++◌, ap, take}
use Rattle.std.specs.List.{flat_map}
use Rattle.std.proofs.lemmas.Result.{on_ok_weaker}
use Rattle.ps_timelines.specs.Lanes.{label_text, lane_text}
use Rattle.ps_timelines.proofs.Appended.{four}
use Rattle.ps_timelines.proofs.lanes.append_lane.Goals as goal

pub returns-clause-appended : goal.returns-clause-appended
unfolding lane_text
returns-clause-appended c =
    on_ok_weaker c.append.result
    (four c.args.to.now.items c.append_head.new.to.items c.append_all_series.new.to.items c.append_told.new.to.items c.append.new.to.items _ _ _ _
    c.in_ok-append_head.ensures.appended c.in_ok-append_all_series.ensures.appended (c.in_ok-append_told.ensures.appended
    ∙ ap (λ l. c.append_all_series.new.to.items ++ flat_map (label_text c.args.scale.steps) (take 4 l))
    c.as_slice.ensures.value))
    c.append.ensures.appended
