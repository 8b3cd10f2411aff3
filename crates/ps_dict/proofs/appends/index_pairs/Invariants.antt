use Rattle.std.proofs.Common.{◌≡◌, ◌*◌, ◌++◌, take}
use Rattle.ps_mem.specs.Heap.{birth_at, stored}
use Rattle.ps_mem.specs.Index.{pairs_of_words, index_words}
use Rattle.ps_dict.specs.Places.{capacity_at, body_at, pairs_at}
use Rattle.ps_dict.specs.Puts.{AfterChange}
use Rattle.ps_dict.proofs.appends.index_pairs.Given as goal

-- the positions of the pairs before this one are put in
abbrev pub invariant-loop-position : goal.invariant-loop-position
invariant-loop-position g l =
    let h = g.M.Memory.heap l.fn.memory in
    (g.M.Memory.heap l.memory ≡ stored h (body_at h l.address) (2 * capacity_at h l.address)
    (index_words (birth_at h) (capacity_at h l.address)
    (pairs_at h l.address ++ take l.position (pairs_of_words l.words))))
    × AfterChange (g.M.Memory.grants l.fn.memory) (g.M.Memory.grants l.memory) l.slot
    l.position 0
