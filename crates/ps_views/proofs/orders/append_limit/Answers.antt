-- Two texts, one behind another.
use Rattle.std.proofs.Common.{◌≡◌, false, nat_lt, rules}
use Rattle.std.proofs.lemmas.Result.{on_ok_weaker}
use Rattle.ps_views.proofs.Appended.{two}
use Rattle.ps_views.proofs.orders.append_limit.Goals as goal

pub returns-clause-appended : goal.returns-clause-appended
returns-clause-appended c =
    let met : nat_lt c.args.reach.cuts c.args.reach.below ≡ false = search rules in
    rw met (on_ok_weaker c.append_counted.result
    (two c.args.to.now.items c.append.new.to.items c.append_counted.new.to.items _ _
    c.in_ok-append.ensures.appended) c.append_counted.ensures.appended)
