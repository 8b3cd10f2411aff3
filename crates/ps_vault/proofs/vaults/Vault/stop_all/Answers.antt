-- All contexts are at the world that they were at.
use Rattle.std.proofs.Common.{false, ap, ◌∙◌}
use Rattle.ps_ops_state.specs.declared.lent.Shared.{Shared}
use Rattle.ps_core_laws.specs.Collected.{may_open, one_more_if}
use Rattle.ps_vault.specs.Stories.{Story}
use Rattle.ps_vault.proofs.Collected.{keeps_collected}
use Rattle.ps_vault.proofs.Keeping.{caller_of}
use Rattle.ps_vault.proofs.Living.{uses_only_live}
use Rattle.ps_vault.proofs.vaults.Vault.stop_all.Goals as goal

pub invariant_of-self : goal.invariant_of-self
invariant_of-self g c =
    keeps_collected _ _ _ c.self.inside.schedule.items
    (c.stop_all.ensures.kept c.self.inside.world.calling) c.self.invariant

pub returns-clause-lives : goal.returns-clause-lives
returns-clause-lives g c = λ left.
    uses_only_live _ c.self.inside.runtime.shared.program.now c.self.inside.schedule.items _
    (g.M.Memory.heap c.stop_all.new.runtime.memory) c.self.inside.world.calling
    (ap (λ (s : Shared). s.program.now) c.stop_all.ensures.shared) (λ i. c.self.inside.schedule.items)
    (λ i. (g.M.Memory.heap c.stop_all.new.runtime.memory).used)
    (λ i. caller_of c.self.inside.world.calling) c.self.invariant.at
    (c.stop_all.ensures.lives
    (ap (λ (s : Story). may_open false (one_more_if s.cycle_open s.flips)) c.self.view_is ∙ left))
