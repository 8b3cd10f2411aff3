-- Four texts one behind another.
use Rattle.std.proofs.lemmas.Result.{on_ok_weaker}
use Rattle.ps_views.proofs.Appended.{four}
use Rattle.ps_views.proofs.states.append_owned.Goals as goal

pub returns-clause-appended : goal.returns-clause-appended
returns-clause-appended c =
    on_ok_weaker c.append-2.result
    (four c.args.to.now.items c.append_number.new.to.items c.append.new.to.items c.append_number-2.new.to.items
    c.append-2.new.to.items _ _ _ _ c.in_ok-append_number.ensures.appended c.in_ok-append.ensures.appended
    c.in_ok-append_number-2.ensures.appended)
    c.append-2.ensures.appended
