-- Two texts, one behind another.
use Rattle.std.proofs.Common.{◌≡◌, ◌==◌, false, rules}
use Rattle.std.proofs.lemmas.Result.{on_ok_weaker}
use Rattle.ps_views.proofs.Appended.{two}
use Rattle.ps_views.proofs.orders.append_whole.Goals as goal

pub returns-clause-appended : goal.returns-clause-appended
returns-clause-appended c =
    let some : (c.args.below == 0) ≡ false = search rules in
    rw some (on_ok_weaker c.append_counted.result
    (two c.args.to.now.items c.append-2.new.to.items c.append_counted.new.to.items _ _
    c.in_ok-append.ensures.appended) c.append_counted.ensures.appended)
