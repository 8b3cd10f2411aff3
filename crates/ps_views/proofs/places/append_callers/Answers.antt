-- Those that are told, and how many aren't.
use Rattle.std.proofs.Common.{arith}
use Rattle.std.proofs.lemmas.Result.{on_err_weaker}
use Rattle.ps_views.specs.Places.{caller_text}
use Rattle.ps_views.proofs.Callers.{told_full}
use Rattle.ps_views.proofs.places.append_callers.Goals as goal

pub returns-clause-full : goal.returns-clause-full
returns-clause-full c =
    on_err_weaker c.append_more.result
    (told_full (caller_text c.args.file.now) c.args.callers.now c.min-told.result _ _ c.args.to.now.items
    c.append_each.new.to.items _ c.min-told.ensures c.in_ok-append_each.ensures.appended (grind arith)
    c.append_each.ensures.capacity)
    c.append_more.ensures.full
