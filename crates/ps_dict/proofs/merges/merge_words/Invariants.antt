use Rattle.std.proofs.Common.{◌≡◌, ◌≤◌, ◌+◌, ◌*◌, take, vec_capacity}
use Rattle.ps_mem.specs.Shows.{words_of_pairs}
use Rattle.ps_dict.specs.Merges.{merged}
use Rattle.ps_dict.specs.Places.{count_at, pairs_at}
use Rattle.ps_dict.proofs.merges.merge_words.Given as goal

-- the pairs before this one are put in, and there is room for the rest
abbrev pub invariant-loop-place : goal.invariant-loop-place
invariant-loop-place g l =
    let h = g.M.Memory.heap l.fn.memory in
    record {
      heap : g.M.Memory.heap l.memory ≡ h;
      grants : g.M.Memory.grants l.memory ≡ g.M.Memory.grants l.fn.memory;
      words : l.scratch.items ≡ words_of_pairs
          (merged (pairs_at h l.merge.to) (take l.place (pairs_at h l.merge.from)));
      room : 2 * (count_at h l.merge.to + count_at h l.merge.from) ≤ vec_capacity l.scratch;
      kept : vec_capacity l.fn.scratch ≤ vec_capacity l.scratch;
    }
