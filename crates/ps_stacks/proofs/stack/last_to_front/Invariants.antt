-- the first items are those of the group that is moved, and the next of them is carried
use Rattle.std.proofs.Common.{◌≡◌, ◌<◌, ◌≤◌, ◌++◌, length, drop, take}
use Rattle.std.specs.Prelude.{slice_index_or}
use Rattle.ps_stacks.proofs.Carried.{raised_of}
use Rattle.ps_stacks.proofs.stack.last_to_front.Given as goal

abbrev pub invariant-loop-place : goal.invariant-loop-place
invariant-loop-place g l = record {
  within : l.place ≤ length l.fn.group;
  stands : l.group ≡ take l.place (raised_of l.fn.group) ++ drop l.place l.fn.group;
  carries : l.place < length l.fn.group
      → l.carried ≡ slice_index_or (raised_of l.fn.group) l.place l.carried;
}
