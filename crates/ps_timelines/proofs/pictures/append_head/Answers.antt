-- Its parts one behind another.
use Rattle.std.proofs.lemmas.Result.{on_ok_weaker}
use Rattle.ps_timelines.specs.Pictures.{head_text}
use Rattle.ps_timelines.proofs.Appended.{five}
use Rattle.ps_timelines.proofs.pictures.append_head.Goals as goal

pub returns-clause-appended : goal.returns-clause-appended
unfolding head_text
returns-clause-appended c =
    on_ok_weaker c.append_titled-2.result
    (five c.args.to.now.items c.append_size.new.to.items c.append_titled.new.to.items c.append_style.new.to.items c.append.new.to.items c.append_titled-2.new.to.items _ _ _ _ _
    c.in_ok-append_size.ensures.appended c.in_ok-append_titled.ensures.appended c.in_ok-append_style.ensures.appended c.in_ok-append.ensures.appended)
    c.append_titled-2.ensures.appended
