use Rattle.std.proofs.Common.{◌≡◌, ◌≤◌, take, vec_capacity}
use Rattle.ps_mem.specs.Heap.{birth_at}
use Rattle.ps_mem.specs.Index.{index_words}
use Rattle.ps_dict.specs.Places.{capacity_at, pairs_at}
use Rattle.ps_dict.specs.Removals.{without_place}
use Rattle.ps_dict.proofs.removals.gather_index.Given as goal

-- the positions before this one are gathered
abbrev pub invariant-loop-position : goal.invariant-loop-position
invariant-loop-position g l =
    let h = g.M.Memory.heap l.fn.memory in
    record {
      heap : g.M.Memory.heap l.memory ≡ h;
      grants : g.M.Memory.grants l.memory ≡ g.M.Memory.grants l.fn.memory;
      items : l.scratch.items ≡ index_words (birth_at h) (capacity_at h l.address)
          (take l.position (without_place (pairs_at h l.address) l.gone));
      room : vec_capacity l.fn.scratch ≤ vec_capacity l.scratch;
    }
