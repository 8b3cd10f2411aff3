use Rattle.ps_mem.specs.Objects.{heap_in}
use Rattle.ps_vault.proofs.Beginning.{nothing_stands}
use Rattle.ps_test_programs.proofs.plays.Play.new.Goals as goal

pub new-requires-2 : goal.new-requires-2
unfolding heap_in
new-requires-2 c = record { heap = nothing_stands _ _ c.in_ok-memory.ensures.empty }
