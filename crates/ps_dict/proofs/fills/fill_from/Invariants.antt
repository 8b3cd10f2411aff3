use Rattle.std.proofs.Common.{◌≡◌, take}
use Rattle.ps_mem.specs.Heap.{fields_at, stored}
use Rattle.ps_dict.proofs.fills.fill_from.Given as goal

-- the words up to the place are filled in
abbrev pub invariant-loop-place : goal.invariant-loop-place
invariant-loop-place g l =
    (g.M.Memory.heap l.memory
    ≡ stored (g.M.Memory.heap l.initial.memory) l.to 0
    (take l.place (take l.count (fields_at (g.M.Memory.heap l.initial.memory) l.from))))
    × (g.M.Memory.grants l.memory ≡ g.M.Memory.grants l.initial.memory)
