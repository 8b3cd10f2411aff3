-- the last items are those of the group that is moved, and the one in front of them is carried
use Rattle.std.proofs.Common.{◌≡◌, ◌-◌, ◌≤◌, ◌++◌, length, drop, take}
use Rattle.std.specs.Prelude.{slice_index_or}
use Rattle.ps_stacks.proofs.Carried.{lowered_of}
use Rattle.ps_stacks.proofs.stack.first_to_end.Given as goal

abbrev pub invariant-loop-place : goal.invariant-loop-place
invariant-loop-place g l = record {
  within : l.place ≤ length l.fn.group;
  stands : l.group ≡ take l.place l.fn.group ++ drop l.place (lowered_of l.fn.group);
  carries : 1 ≤ l.place
      → l.carried ≡ slice_index_or (lowered_of l.fn.group) (l.place - 1) l.carried;
}

abbrev pub decreases-loop-place : goal.decreases-loop-place
decreases-loop-place g l = l.place
