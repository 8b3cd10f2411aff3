use Rattle.std.proofs.Common.{◌≡◌, ◌≤◌, take, vec_len, vec_capacity}
use Rattle.ps_mem.specs.Heap.{fields_at}
use Rattle.ps_dict.specs.Places.{body_at}
use Rattle.ps_dict.proofs.merges.push_pairs.Given as goal

-- the words before this one are there
abbrev pub invariant-loop-place : goal.invariant-loop-place
invariant-loop-place g l =
    let h = g.M.Memory.heap l.fn.memory in
    record {
      heap : g.M.Memory.heap l.memory ≡ h;
      grants : g.M.Memory.grants l.memory ≡ g.M.Memory.grants l.fn.memory;
      words : l.scratch.items ≡ take l.place (fields_at h (body_at h l.address));
      count : vec_len l.scratch ≡ l.place;
      room : vec_capacity l.fn.scratch ≤ vec_capacity l.scratch;
    }
