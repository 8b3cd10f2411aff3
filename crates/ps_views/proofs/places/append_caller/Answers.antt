-- Five texts one behind another.
use Rattle.std.proofs.lemmas.Result.{on_ok_weaker}
use Rattle.ps_views.proofs.Appended.{five}
use Rattle.ps_views.proofs.places.append_caller.Goals as goal

pub returns-clause-appended : goal.returns-clause-appended
returns-clause-appended c =
    on_ok_weaker c.append-2.result
    (five c.args.to.now.items c.append.new.to.items c.append_position.new.to.items c.append_name.new.to.items
    c.append_times.new.to.items c.append-2.new.to.items _ _ _ _ _ c.in_ok-append.ensures.appended
    c.in_ok-append_position.ensures.appended c.in_ok-append_name.ensures.appended
    c.in_ok-append_times.ensures.appended)
    c.append-2.ensures.appended
