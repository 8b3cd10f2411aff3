-- What is gone isn't ready.
use Rattle.std.proofs.Common.{ap}
use Rattle.ps_vault.specs.Stories.{Story, world_at}
use Rattle.ps_vault.proofs.Keeping.{at_story, next_found, next_none}
use Rattle.ps_vault.proofs.vaults.Vault.next_left.Goals as goal

pub returns-clause-left : goal.returns-clause-left
returns-clause-left g c =
    next_found _ _ _ (world_at c.args.self.now) c.args.after c.next.result
    (at_story _ c.self.inside.schedule.items c.args.self.now c.self.invariant
    (ap (λ (s : Story). s.program) c.self.view_is) (ap (λ (s : Story). s.schedule) c.self.view_is)
    (ap (λ (s : Story). s.caller) c.self.view_is) c.requires).contexts c.next.ensures

pub returns-clause-none : goal.returns-clause-none
returns-clause-none g c =
    next_none _ _ _ (world_at c.args.self.now) c.args.after c.next.result
    (at_story _ c.self.inside.schedule.items c.args.self.now c.self.invariant
    (ap (λ (s : Story). s.program) c.self.view_is) (ap (λ (s : Story). s.schedule) c.self.view_is)
    (ap (λ (s : Story). s.caller) c.self.view_is) c.requires).contexts c.next.ensures
