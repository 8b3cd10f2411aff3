-- Three texts, one behind another.
use Rattle.std.proofs.lemmas.Result.{on_ok_weaker}
use Rattle.ps_views.proofs.Appended.{three}
use Rattle.ps_views.proofs.worlds.append_bound.Goals as goal

pub returns-clause-appended : goal.returns-clause-appended
returns-clause-appended c =
    on_ok_weaker c.append-2.result
    (three c.args.to.now.items c.append.new.to.items c.append_counted.new.to.items
    c.append-2.new.to.items _ _ _ c.in_ok-append.ensures.appended
    c.in_ok-append_counted.ensures.appended) c.append-2.ensures.appended
