use Rattle.std.proofs.Common.{◌≡◌, ◌+◌, ◌++◌}
use Rattle.std.specs.Prelude.{reverse, slice_range}
use Rattle.ps_mem.specs.Heap.{fields_at}
use Rattle.ps_ops_sequences.proofs.arrays.push_elements.Given as goal

-- the elements up to the index stand above the operands that were there
abbrev pub invariant-loop-index : goal.invariant-loop-index
invariant-loop-index g l =
    (g.M.Memory.heap l.memory ≡ g.M.Memory.heap l.initial.memory)
    × (g.M.Memory.grants l.memory ≡ g.M.Memory.grants l.initial.memory)
    × (l.operands ≡ reverse (slice_range (fields_at (g.M.Memory.heap l.initial.memory) l.part.address) l.part.offset
    (l.part.offset + l.index)) ++ l.initial.operands)
