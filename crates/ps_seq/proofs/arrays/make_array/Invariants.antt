use Rattle.std.proofs.Common.{◌≡◌, take}
use Rattle.ps_mem.specs.Heap.{stored}
use Rattle.ps_seq.proofs.arrays.make_array.Given as goal

-- the words up to the index are filled in
abbrev pub invariant-loop-word : goal.invariant-loop-word
invariant-loop-word g l =
    (l.place ≡ l.word-index)
    × (g.M.Memory.heap l.memory ≡ stored (g.M.Memory.heap l.initial.memory) l.address 0
    (take l.word-index l.words))
    × (g.M.Memory.grants l.memory ≡ g.M.Memory.grants l.initial.memory)
