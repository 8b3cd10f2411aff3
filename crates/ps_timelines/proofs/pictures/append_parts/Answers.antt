-- Its parts one behind another.
use Rattle.std.proofs.lemmas.Result.{on_ok_weaker}
use Rattle.ps_timelines.specs.Pictures.{picture}
use Rattle.ps_timelines.proofs.Appended.{six}
use Rattle.ps_timelines.proofs.pictures.append_parts.Goals as goal

pub returns-clause-appended : goal.returns-clause-appended
unfolding picture
returns-clause-appended c =
    on_ok_weaker c.append.result
    (six c.args.to.now.items c.append_head.new.to.items c.append_scale.new.to.items c.append_lanes.new.to.items c.append_all_arrows.new.to.items c.append_legend.new.to.items c.append.new.to.items _ _ _ _ _ _
    c.in_ok-append_head.ensures.appended c.in_ok-append_scale.ensures.appended c.in_ok-append_lanes.ensures.appended c.in_ok-append_all_arrows.ensures.appended c.in_ok-append_legend.ensures.appended)
    c.append.ensures.appended
