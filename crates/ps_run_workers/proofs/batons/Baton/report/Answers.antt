-- The run that the baton kept.
use Rattle.std.proofs.Common.{sym, ap}
use Rattle.ps_mem.specs.Bounded.{bounded_space}
use Rattle.ps_run_schedules.specs.Keeping.{Kept}
use Rattle.ps_vault.specs.declared.reports.RunFault.TheVariants as fault
use Rattle.ps_run_workers.specs.Batons.{Progress}
use Rattle.ps_run_workers.proofs.Ending.{reported, unreported}
use Rattle.ps_run_workers.proofs.Keeping.{kept_ends, progress}
use Rattle.ps_run_workers.proofs.batons.Baton.report.Goals as goal

pub returns-in_default-clause-ended : goal.returns-in_default-clause-ended
returns-in_default-clause-ended g c =
    unreported g.S.Interpret.asks g.O.Origin.start (progress c.self.inside.vault
    c.self.inside.config c.self.inside.made c.self.inside.budget c.self.inside.screen
    c.self.inside.outcome) fault.Memory c.self.invariant

pub returns-then-refused-clause-ended : goal.returns-then-refused-clause-ended
returns-then-refused-clause-ended g c =
    unreported g.S.Interpret.asks g.O.Origin.start (progress c.self.inside.vault
    c.self.inside.config c.self.inside.made c.self.inside.budget c.self.inside.screen
    c.self.inside.outcome) fault.Memory c.self.invariant

pub returns-clause-ended : goal.returns-clause-ended
returns-clause-ended g c =
    let p : Progress = progress c.self.inside.vault c.self.inside.config c.self.inside.made
    c.self.inside.budget c.self.inside.screen c.self.inside.outcome in
    reported g.S.Interpret.asks g.O.Origin.start p c.into_report.result c.self.invariant
    (c.into_report.ensures.run (bounded_space c.self.inside.config.space)
    (sym c.self.invariant.space) (kept_ends g.S.Interpret.asks g.O.Origin.start p c.in-Some.outcome
    c.self.invariant c.in-Some.is)) (ap (λ (kept : Kept). kept.items) c.into_report.ensures.schedule)
    c.into_report.ensures.bounded
