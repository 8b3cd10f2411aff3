use Rattle.std.proofs.Common.{◌≡◌}
use Rattle.ps_dict.specs.Probes.{StillAhead}
use Rattle.ps_dict.proofs.dictionaries.indexed_position.Given as goal

-- the memory is as it was, and what is still to be looked through has the place of the key
abbrev pub invariant-loop-behind : goal.invariant-loop-behind
invariant-loop-behind g l =
    (g.M.Memory.heap l.memory ≡ g.M.Memory.heap l.initial.memory)
    × (g.M.Memory.grants l.memory ≡ g.M.Memory.grants l.initial.memory)
    × StillAhead (g.M.Memory.heap l.initial.memory) l.address l.key l.behind
