use Rattle.std.proofs.Common.{◌≡◌, length, take}
use Rattle.ps_dict.specs.Merges.{merged}
use Rattle.ps_dict.specs.Places.{pairs_at}
use Rattle.ps_dict.proofs.merges.merged_count.Given as goal

-- those before this one are counted
abbrev pub invariant-loop-place : goal.invariant-loop-place
invariant-loop-place g l =
    let h = g.M.Memory.heap l.fn.memory in
    record {
      heap : g.M.Memory.heap l.memory ≡ h;
      grants : g.M.Memory.grants l.memory ≡ g.M.Memory.grants l.fn.memory;
      count : l.count ≡ length (merged (pairs_at h l.merge.to) (take l.place (pairs_at h l.merge.from)));
    }
