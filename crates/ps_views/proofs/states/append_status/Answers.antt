-- The texts of each status, one behind another.
use Rattle.std.proofs.Common.{◌≡◌, ◌++◌, OnOk, sym, subst}
use Rattle.std.proofs.lemmas.Result.{on_ok_weaker}
use Rattle.ps_views.specs.declared.states.StatusLine.{StatusLine}
use Rattle.ps_views.specs.States.{status_text}
use Rattle.ps_views.proofs.Appended.{two, four}
use Rattle.ps_views.proofs.states.append_status.Goals as goal

pub returns-in_ok-append-in-InMonitor-clause-appended : goal.returns-in_ok-append-in-InMonitor-clause-appended
returns-in_ok-append-in-InMonitor-clause-appended c =
    subst (λ (status : StatusLine). OnOk c.append_owned.result
    (c.append_owned.new.to.items ≡ c.args.to.now.items ++ status_text status)) (sym c.in-InMonitor.is)
    (on_ok_weaker c.append_owned.result
    (two c.args.to.now.items c.append-in-InMonitor.new.to.items c.append_owned.new.to.items _ _
    c.in_ok-append-in-InMonitor.ensures.appended) c.append_owned.ensures.appended)

pub returns-in_ok-append-in-InJoin-clause-appended : goal.returns-in_ok-append-in-InJoin-clause-appended
returns-in_ok-append-in-InJoin-clause-appended c =
    subst (λ (status : StatusLine). OnOk c.append_number.result
    (c.append_number.new.to.items ≡ c.args.to.now.items ++ status_text status)) (sym c.in-InJoin.is)
    (on_ok_weaker c.append_number.result
    (two c.args.to.now.items c.append-in-InJoin.new.to.items c.append_number.new.to.items _ _
    c.in_ok-append-in-InJoin.ensures.appended) c.append_number.ensures.appended)

pub returns-in_ok-append-in-ForCondition-2-clause-appended : goal.returns-in_ok-append-in-ForCondition-2-clause-appended
returns-in_ok-append-in-ForCondition-2-clause-appended c =
    subst (λ (status : StatusLine). OnOk c.append_number-in-ForCondition-2.result
    (c.append_number-in-ForCondition-2.new.to.items ≡ c.args.to.now.items ++ status_text status))
    (sym c.in-ForCondition.is)
    (on_ok_weaker c.append_number-in-ForCondition-2.result
    (four c.args.to.now.items c.append-in-ForCondition.new.to.items c.append_number-in-ForCondition.new.to.items
    c.append-in-ForCondition-2.new.to.items c.append_number-in-ForCondition-2.new.to.items _ _ _ _
    c.in_ok-append-in-ForCondition.ensures.appended c.in_ok-append_number-in-ForCondition.ensures.appended
    c.in_ok-append-in-ForCondition-2.ensures.appended) c.append_number-in-ForCondition-2.ensures.appended)

pub returns-in_ok-append-in-Notified-clause-appended : goal.returns-in_ok-append-in-Notified-clause-appended
returns-in_ok-append-in-Notified-clause-appended c =
    subst (λ (status : StatusLine). OnOk c.append_owned-in-Notified.result
    (c.append_owned-in-Notified.new.to.items ≡ c.args.to.now.items ++ status_text status)) (sym c.in-Notified.is)
    (on_ok_weaker c.append_owned-in-Notified.result
    (two c.args.to.now.items c.append-in-Notified.new.to.items c.append_owned-in-Notified.new.to.items _ _
    c.in_ok-append-in-Notified.ensures.appended) c.append_owned-in-Notified.ensures.appended)
