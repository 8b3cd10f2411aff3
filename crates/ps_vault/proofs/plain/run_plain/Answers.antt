-- No one watches, so the run isn't cut.
use Rattle.std.proofs.Common.{◌≡◌, ℕ, false, ap, ◌∙◌, subst}
use Rattle.std.proofs.lemmas.Result.{IfOk-weaker}
use Rattle.ps_vault.specs.Reports.{IsRunOf}
use Rattle.ps_vault.specs.Screens.{Sight}
use Rattle.ps_vault.proofs.plain.run_plain.Goals as goal

pub returns-clause-run : goal.returns-clause-run
returns-clause-run g c =
    let going : c.run_plain_shown.new.screen.failed ≡ false =
    ap (λ (s : Sight). s.failed) (c.run_plain_shown.ensures.still c.new-screen.ensures.watching)
    ∙ c.new-screen.ensures.failed in
    IfOk-weaker c.run_plain_shown.result _ _ (λ report made.
    subst (λ (n : ℕ). IsRunOf g.S.Interpret.asks c.args.job.program.now n report) (made.2 going) made.3)
    c.run_plain_shown.ensures.run
