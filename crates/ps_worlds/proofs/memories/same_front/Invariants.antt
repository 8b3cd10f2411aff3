use Rattle.std.proofs.Common.{◌-◌, ◌≡◌, ◌≤◌, length, take}
use Rattle.ps_worlds.proofs.memories.same_front.Given as goal

-- the words before this place are the same
abbrev pub invariant-loop-same : goal.invariant-loop-same
invariant-loop-same l = record {
  one : l.same ≤ length l.one;
  other : l.same ≤ length l.other;
  same : take l.same l.one ≡ take l.same l.other;
}

abbrev pub decreases-loop-same : goal.decreases-loop-same
decreases-loop-same l = l.most - l.same
