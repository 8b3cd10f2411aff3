-- A run at its end.
use Rattle.std.proofs.Common.{sym, ap, ◌∙◌}
use Rattle.ps_vault.specs.Stories.{kept_of}
use Rattle.ps_vault.proofs.Keeping.{kept_same, run_at_end}
use Rattle.ps_vault.proofs.vaults.Vault.into_report.Goals as goal

pub returns-clause-run : goal.returns-clause-run
returns-clause-run g c = λ space size ends.
    run_at_end g.S.Interpret.asks space _ _ c.args.steps _ c.args.self c.into_bytes.ensures.bytes
    c.self.invariant c.self.view_is size c.requires.few c.requires.fits c.requires.warranted
    c.requires.room ends

pub returns-clause-schedule : goal.returns-clause-schedule
returns-clause-schedule g c =
    sym (kept_same c.self.inside.schedule) ∙ ap kept_of c.self.view_is
