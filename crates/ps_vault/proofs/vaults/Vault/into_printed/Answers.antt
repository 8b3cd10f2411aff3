-- The bytes of its world.
use Rattle.std.proofs.Common.{sym, ap, subst, length, ◌∙◌, ◌≤◌}
use Rattle.ps_vault.specs.Stories.{Story, world_at}
use Rattle.ps_vault.proofs.Keeping.{printed_by}
use Rattle.ps_vault.proofs.vaults.Vault.into_printed.Goals as goal

pub returns-clause-printed : goal.returns-clause-printed
returns-clause-printed g c =
    c.into_bytes.ensures.bytes ∙ sym (printed_by _ _ _ c.self.invariant.at)
    ∙ ap (λ (s : Story). (world_at s).printed) c.self.view_is

pub returns-clause-bounded : goal.returns-clause-bounded
returns-clause-bounded g c =
    subst (λ (s : Story). length c.into_bytes.result.items ≤ s.most.output) c.self.view_is
    c.into_bytes.ensures.within
