-- All contexts are at the world that they were at, whatever is granted.
use Rattle.ps_gc_roots.proofs.Moving.{over-granted}
use Rattle.ps_vault.proofs.Collected.{keeps_collected}
use Rattle.ps_vault.proofs.vaults.Vault.counts.Goals as goal

pub invariant_of-self : goal.invariant_of-self
invariant_of-self g c =
    keeps_collected _ _ _ c.self.inside.schedule.items
    (over-granted (g.M.Memory.heap c.self.inside.runtime.memory) (g.M.Memory.heap c.counts.new.self)
    (g.M.Memory.grants c.self.inside.runtime.memory) (g.M.Memory.grants c.counts.new.self)
    c.self.inside.runtime.shared c.self.inside.world.contexts c.counts.ensures.heap c.self.inside.world.calling)
    c.self.invariant
