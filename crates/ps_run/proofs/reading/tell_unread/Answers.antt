-- The line of the reason, and three pieces of the next.
use Rattle.std.proofs.Common.{◌≡◌, ℕ, List, Option, Some, rules, sym, subst}
use Rattle.ps_run.specs.Driving as driving
use Rattle.ps_run.specs.Telling.{Tells}
use Rattle.ps_run.proofs.Tellings.{tells_both}
use Rattle.ps_run.proofs.reading.tell_unread.Goals as goal

pub returns-clause-told : goal.returns-clause-told
returns-clause-told g c =
    let is : driving.reason_of c.args.fault ≡ Some c.in-Some.reason.now = search rules in
    subst (λ (reason : Option (List ℕ)). Tells (g.X.Telling.told c.args.err.now)
    (g.X.Telling.told c.tell-3.new.self) (driving.lines_for reason c.args.name.now)) (sym is)
    (tells_both _ _ _ _ _ c.tell_reason.ensures
    (tells_both _ _ _ _ _ c.tell.ensures
    (tells_both _ _ _ _ _ (rw c.as_bytes.ensures.value at c.tell-2.ensures) c.tell-3.ensures)))
