-- The bytes of its world.
use Rattle.std.proofs.Common.{sym, ◌∙◌}
use Rattle.ps_vault.proofs.Keeping.{printed_by}
use Rattle.ps_vault.proofs.parking.Parked.printed.Goals as goal

pub returns : goal.returns
returns g c = λ program parked. c.as_slice.ensures ∙ sym (printed_by _ _ _ parked.at)
