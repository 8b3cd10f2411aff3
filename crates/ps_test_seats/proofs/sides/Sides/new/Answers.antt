-- Nothing stands at new seats.
use Rattle.std.proofs.Common.{ap, ◌∙◌}
use Rattle.ps_core_laws.specs.Memory.{heap_of}
use Rattle.ps_vault.proofs.Beginning.{nothing_stands}
use Rattle.ps_test_seats.proofs.sides.Sides.new.Goals as goal

pub new-requires-2 : goal.new-requires-2
new-requires-2 g c =
    nothing_stands _ _ (ap (λ v. heap_of v.seat.me.0.vm) c.new.ensures ∙ c.args.seats.empty)
