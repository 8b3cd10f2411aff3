-- Two texts, one behind another.
use Rattle.std.proofs.lemmas.Result.{on_ok_weaker}
use Rattle.ps_views.proofs.Appended.{two}
use Rattle.ps_views.proofs.cuts.append_behind.Goals as goal

pub returns-clause-appended : goal.returns-clause-appended
returns-clause-appended c =
    on_ok_weaker c.append_number.result
    (two c.args.to.now.items c.append.new.to.items c.append_number.new.to.items _ _
    c.in_ok-append.ensures.appended) c.append_number.ensures.appended
