-- All contexts are at the world that they were at.
use Rattle.ps_vault.proofs.Collected.{keeps_collected}
use Rattle.ps_vault.proofs.vaults.Vault.open_cycle.Goals as goal

pub invariant_of-self : goal.invariant_of-self
invariant_of-self g c =
    keeps_collected _ _ _ c.self.inside.schedule.items
    (c.open_cycle.ensures.kept c.self.inside.world.calling) c.self.invariant
