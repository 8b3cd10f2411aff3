-- Its parts one behind another.
use Rattle.std.proofs.lemmas.Result.{on_ok_weaker}
use Rattle.ps_timelines.specs.Keys.{key_text}
use Rattle.ps_timelines.proofs.Appended.{five}
use Rattle.ps_timelines.proofs.keys.append_key.Goals as goal

pub returns-clause-appended : goal.returns-clause-appended
unfolding key_text
returns-clause-appended c =
    on_ok_weaker c.append-2.result
    (five c.args.to.now.items c.append_place.new.to.items c.append_sample.new.to.items c.append.new.to.items c.append_series_title.new.to.items c.append-2.new.to.items _ _ _ _ _
    c.in_ok-append_place.ensures.appended c.in_ok-append_sample.ensures.appended c.in_ok-append.ensures.appended c.in_ok-append_series_title.ensures.appended)
    c.append-2.ensures.appended
