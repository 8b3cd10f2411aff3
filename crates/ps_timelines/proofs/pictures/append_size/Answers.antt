-- Its parts one behind another.
use Rattle.std.proofs.lemmas.Result.{on_ok_weaker}
use Rattle.ps_timelines.specs.Pictures.{size_text}
use Rattle.ps_timelines.proofs.Appended.{two}
use Rattle.ps_timelines.proofs.pictures.append_size.Goals as goal

pub returns-clause-appended : goal.returns-clause-appended
unfolding size_text
returns-clause-appended c =
    on_ok_weaker c.append_between-2.result
    (two c.args.to.now.items c.append_between.new.to.items c.append_between-2.new.to.items _ _
    c.in_ok-append_between.ensures.appended)
    c.append_between-2.ensures.appended
