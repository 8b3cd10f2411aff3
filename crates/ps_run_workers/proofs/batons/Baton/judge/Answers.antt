-- The run ends as its vault's world says.
use Rattle.std.proofs.Common.{sym, subst, ◌==◌}
use Rattle.ps_vault.specs.Reports.{EndsAs}
use Rattle.ps_vault.specs.Stories.{Story, world_at}
use Rattle.ps_vault.proofs.Following.{ends_so}
use Rattle.ps_run_workers.specs.Batons.{IsStarvedAt}
use Rattle.ps_run_workers.proofs.batons.Baton.judge.Goals as goal

pub finish-requires : goal.finish-requires
finish-requires g c =
    let same = c.outcome-outcome.ensures.same in
    record {
      ends = subst (λ (s : Story). EndsAs (world_at s)
          (c.self.inside.made == c.self.inside.budget) (IsStarvedAt g.S.Interpret.asks s)
          c.outcome-outcome.result) (sym same)
          (ends_so (world_at c.self.inside.vault) _ _ c.outcome-outcome.result
          c.outcome-outcome.ensures.ends);
    }
