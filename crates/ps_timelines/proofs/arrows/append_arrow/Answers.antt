-- Its parts one behind another.
use Rattle.std.proofs.lemmas.Result.{on_ok_weaker}
use Rattle.ps_timelines.specs.Arrows.{arrow_text}
use Rattle.ps_timelines.proofs.Appended.{five}
use Rattle.ps_timelines.proofs.arrows.append_arrow.Goals as goal

pub returns-clause-appended : goal.returns-clause-appended
unfolding arrow_text
returns-clause-appended c =
    on_ok_weaker c.append.result
    (five c.args.to.now.items c.append_arrow_head.new.to.items c.append_shaft.new.to.items c.append_between.new.to.items c.append_relation_title.new.to.items c.append.new.to.items _ _ _ _ _
    c.in_ok-append_arrow_head.ensures.appended c.in_ok-append_shaft.ensures.appended c.in_ok-append_between.ensures.appended c.in_ok-append_relation_title.ensures.appended)
    c.append.ensures.appended
