-- Its parts one behind another.
use Rattle.std.proofs.lemmas.Result.{on_ok_weaker}
use Rattle.ps_timelines.specs.Arrows.{shaft_text}
use Rattle.ps_timelines.proofs.Appended.{three}
use Rattle.ps_timelines.proofs.arrows.append_shaft.Goals as goal

pub returns-clause-appended : goal.returns-clause-appended
unfolding shaft_text
returns-clause-appended c =
    on_ok_weaker c.append_side-2.result
    (three c.args.to.now.items c.append_place_of.new.to.items c.append_side.new.to.items c.append_side-2.new.to.items _ _ _
    c.in_ok-append_place_of.ensures.appended c.in_ok-append_side.ensures.appended)
    c.append_side-2.ensures.appended
