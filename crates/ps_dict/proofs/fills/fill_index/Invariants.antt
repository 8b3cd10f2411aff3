use Rattle.std.proofs.Common.{◌≡◌, ◌*◌, take}
use Rattle.ps_mem.specs.Heap.{birth_at, fields_at, stored}
use Rattle.ps_mem.specs.Index.{pairs_of_words, index_words}
use Rattle.ps_dict.proofs.fills.fill_index.Given as goal

-- the positions before this one are filled in
abbrev pub invariant-loop-position : goal.invariant-loop-position
invariant-loop-position g l =
    let h = g.M.Memory.heap l.initial.memory in
    (g.M.Memory.heap l.memory ≡ stored h l.body (2 * l.capacity)
    (index_words (birth_at h) l.capacity
    (take l.position (pairs_of_words (fields_at h l.body)))))
    × (g.M.Memory.grants l.memory ≡ g.M.Memory.grants l.initial.memory)
