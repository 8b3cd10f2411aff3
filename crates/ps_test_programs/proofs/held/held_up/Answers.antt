-- Nothing stands in a new space.
use Rattle.ps_vault.proofs.Beginning.{nothing_stands}
use Rattle.ps_test_programs.proofs.held.held_up.Goals as goal

pub new-requires-3 : goal.new-requires-3
new-requires-3 c = record { empty = nothing_stands _ _ c.in_ok-memory.ensures.heap }
