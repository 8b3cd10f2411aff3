use Rattle.std.proofs.Common.{◌≡◌, ◌<◌, ◌≤◌, ◌-◌, ℕ, false, length}
use Rattle.std.specs.Prelude.{get_or}
use Rattle.ps_worlds.proofs.runs.next_in.Given as goal

-- none between is ready
abbrev pub invariant-loop-place : goal.invariant-loop-place
invariant-loop-place l = record {
  above : l.after ≤ l.place;
  none : (k : ℕ) → l.after ≤ k → k < l.place → get_or l.ready k false ≡ false;
}

abbrev pub decreases-loop-place : goal.decreases-loop-place
decreases-loop-place l = length l.ready - l.place
