-- The run ends where it is.
use Rattle.std.proofs.Common.{refl, sym, subst, ◌==◌, arith}
use Rattle.ps_vault.specs.Reports.{EndsAs}
use Rattle.ps_vault.specs.Stories.{world_at}
use Rattle.ps_run_workers.specs.Batons.{Progress, IsStarvedAt}
use Rattle.ps_run_workers.proofs.Keeping.{progress, keeps_ended}
use Rattle.ps_run_workers.proofs.batons.Baton.finish.Goals as goal

pub invariant_of-self : goal.invariant_of-self
invariant_of-self g c =
    keeps_ended g.S.Interpret.asks g.O.Origin.start
    (progress c.self.inside.vault c.self.inside.config c.self.inside.made
    c.self.inside.budget c.self.inside.screen c.self.inside.outcome) c.self.inside.vault c.args.outcome
    c.self.invariant refl refl refl refl refl refl (omega arith)
    (subst (λ (p : Progress). EndsAs (world_at p.story) (p.made == p.budget)
    (IsStarvedAt g.S.Interpret.asks p.story) c.args.outcome) (sym c.self.view_is) c.requires.ends)
