use Rattle.std.proofs.Common.{◌≡◌}
use Rattle.ps_test_layers.proofs.rates.find_all.Given as goal

-- the memory is as it was
abbrev pub invariant-loop-number : goal.invariant-loop-number
invariant-loop-number g l = g.M.Memory.heap l.memory ≡ g.M.Memory.heap l.fn.memory
