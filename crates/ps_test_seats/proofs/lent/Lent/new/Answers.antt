-- Nothing stands at new seats.
use Rattle.std.proofs.Common.{ap, ◌∙◌}
use Rattle.ps_core_laws.specs.Memory.{heap_of}
use Rattle.ps_vault.proofs.Beginning.{nothing_stands}
use Rattle.ps_test_seats.proofs.lent.Lent.new.Goals as goal

pub new-requires : goal.new-requires
new-requires g c =
    nothing_stands _ _ (ap (λ v. heap_of v.seat.me.0.vm) c.in_ok-memory.ensures.vm
    ∙ c.args.seats.empty)
