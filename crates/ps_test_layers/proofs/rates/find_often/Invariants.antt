use Rattle.std.proofs.Common.{◌≡◌}
use Rattle.ps_test_layers.proofs.rates.find_often.Given as goal

-- the memory is as it was
abbrev pub invariant-loop : goal.invariant-loop
invariant-loop g l = g.M.Memory.heap l.memory ≡ g.M.Memory.heap l.fn.memory
