-- No one watches, so the whole schedule is followed.
use Rattle.std.proofs.Common.{◌≡◌, List, false, ap, ◌∙◌, subst}
use Rattle.std.specs.Prelude.{IfOk}
use Rattle.std.proofs.lemmas.Result.{IfOk-weaker}
use Rattle.ps_language.specs.declared.schedules.Entry.{Entry}
use Rattle.ps_vault.specs.Reports.{IsReplayOf}
use Rattle.ps_vault.specs.Screens.{Sight}
use Rattle.ps_vault.proofs.replays.replay.Given as givens
use Rattle.ps_vault.proofs.replays.replay.Goals as goal
use Rattle.ps_vault.proofs.replays.replay.Goals.{After-replay_shown}

followed : (g : givens.Over) (c : After-replay_shown g)
    → IfOk c.replay_shown.result
    (IsReplayOf g.S.Interpret.asks c.args.task.program.now c.args.schedule.now)
followed g c =
    let going : c.replay_shown.new.screen.failed ≡ false =
    ap (λ (s : Sight). s.failed) (c.replay_shown.ensures.still c.new-screen.ensures.watching)
    ∙ c.new-screen.ensures.failed in
    IfOk-weaker c.replay_shown.result _ _ (λ report made.
    subst (λ (part : List Entry). IsReplayOf g.S.Interpret.asks c.args.task.program.now part report)
    (made.3 going) made.4) c.replay_shown.ensures.run

pub returns-clause-prints : goal.returns-clause-prints
returns-clause-prints g c = IfOk-weaker c.replay_shown.result _ _ (λ report is. is.prints)
    (followed g (goal.at.returns-clause-prints g c).After-replay_shown)

pub returns-clause-begins : goal.returns-clause-begins
returns-clause-begins g c = IfOk-weaker c.replay_shown.result _ _ (λ report is. is.begins)
    (followed g (goal.at.returns-clause-begins g c).After-replay_shown)

pub returns-clause-whole : goal.returns-clause-whole
returns-clause-whole g c = IfOk-weaker c.replay_shown.result _ _ (λ report is. is.whole)
    (followed g (goal.at.returns-clause-whole g c).After-replay_shown)

pub returns-clause-refused : goal.returns-clause-refused
returns-clause-refused g c = IfOk-weaker c.replay_shown.result _ _ (λ report is. is.refused)
    (followed g (goal.at.returns-clause-refused g c).After-replay_shown)

pub returns-clause-cut : goal.returns-clause-cut
returns-clause-cut g c = IfOk-weaker c.replay_shown.result _ _ (λ report is. is.cut)
    (followed g (goal.at.returns-clause-cut g c).After-replay_shown)

pub returns-clause-ends : goal.returns-clause-ends
returns-clause-ends g c = IfOk-weaker c.replay_shown.result _ _ (λ report is. is.ends)
    (followed g (goal.at.returns-clause-ends g c).After-replay_shown)

pub returns-clause-flips : goal.returns-clause-flips
returns-clause-flips g c = IfOk-weaker c.replay_shown.result _ _ (λ report is. is.uncollected.0)
    (followed g (goal.at.returns-clause-flips g c).After-replay_shown)

pub returns-clause-taken : goal.returns-clause-taken
returns-clause-taken g c = IfOk-weaker c.replay_shown.result _ _ (λ report is. is.uncollected.1)
    (followed g (goal.at.returns-clause-taken g c).After-replay_shown)
