-- The bytes of its world.
use Rattle.std.proofs.Common.{sym, ap, ◌∙◌}
use Rattle.ps_vault.specs.Stories.{Story, world_at}
use Rattle.ps_vault.proofs.Keeping.{printed_by}
use Rattle.ps_vault.proofs.vaults.Vault.printed.Goals as goal

pub returns : goal.returns
returns g c =
    c.as_slice.ensures ∙ sym (printed_by _ _ _ c.self.invariant.at)
    ∙ ap (λ (s : Story). (world_at s).printed) c.self.view_is
