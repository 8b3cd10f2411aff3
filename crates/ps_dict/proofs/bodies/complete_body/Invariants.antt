use Rattle.std.proofs.Common.{◌≡◌, ◌-◌, ◌*◌, ◌/◌, ◌++◌, ◌≤◌, length, take, replicate, vec_capacity}
use Rattle.ps_mem.specs.Heap.{birth_at, zero_word}
use Rattle.ps_mem.specs.Index.{pairs_of_words, index_words}
use Rattle.ps_dict.proofs.bodies.complete_body.Given as goal

-- the positions before this one are in the index
abbrev pub invariant-loop-position : goal.invariant-loop-position
invariant-loop-position g l =
    let h = g.M.Memory.heap l.fn.memory in
    let ws = l.fn.scratch.items in
    record {
      heap : g.M.Memory.heap l.memory ≡ h;
      grants : g.M.Memory.grants l.memory ≡ g.M.Memory.grants l.fn.memory;
      items : l.scratch.items ≡ ws ++ (replicate (2 * (l.capacity - length ws / 2)) zero_word
          ++ index_words (birth_at h) l.capacity (take l.position (pairs_of_words ws)));
      room : vec_capacity l.fn.scratch ≤ vec_capacity l.scratch;
    }
