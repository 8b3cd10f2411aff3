-- Its parts one behind another.
use Rattle.std.proofs.lemmas.Result.{on_ok_weaker}
use Rattle.ps_timelines.specs.Arrows.{arrow_key}
use Rattle.ps_timelines.proofs.Appended.{five}
use Rattle.ps_timelines.proofs.arrows.append_arrow_key.Goals as goal

pub returns-clause-appended : goal.returns-clause-appended
unfolding arrow_key
returns-clause-appended c =
    on_ok_weaker c.append-2.result
    (five c.args.to.now.items c.append_place.new.to.items c.append_arrow_head.new.to.items c.append.new.to.items c.append_relation_title.new.to.items c.append-2.new.to.items _ _ _ _ _
    c.in_ok-append_place.ensures.appended c.in_ok-append_arrow_head.ensures.appended c.in_ok-append.ensures.appended c.in_ok-append_relation_title.ensures.appended)
    c.append-2.ensures.appended
