-- The window is that of the definition.
use Rattle.std.proofs.Common.{◌≡◌, ◌<◌, ◌++◌, subst, length, OnOk, OnErr, vec_capacity, List, ℕ}
use Rattle.ps_views.proofs.Windows.{source_is}
use Rattle.ps_views.proofs.sources.append_source.Goals as goal

pub returns-clause-appended : goal.returns-clause-appended
returns-clause-appended c =
    let w = c.window_at.ensures in
    subst (λ (text : List ℕ). OnOk c.append_window.result
    (c.append_window.new.to.items ≡ c.args.to.now.items ++ text))
    (source_is c.args.line.now c.args.at c.args.width _ _ _ _ w.bytes w.mark w.before w.behind)
    c.append_window.ensures.appended

pub returns-clause-full : goal.returns-clause-full
returns-clause-full c =
    let w = c.window_at.ensures in
    subst (λ (text : List ℕ). OnErr c.append_window.result
    (vec_capacity c.args.to.now < length (c.args.to.now.items ++ text)))
    (source_is c.args.line.now c.args.at c.args.width _ _ _ _ w.bytes w.mark w.before w.behind)
    c.append_window.ensures.full
