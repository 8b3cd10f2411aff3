use Rattle.std.proofs.Common.{◌≡◌, ◌≤◌, drop, length}
use Rattle.ps_run_hosts.proofs.slices.entries_from.Given as goal

-- so many were passed over
abbrev pub invariant-loop-place : goal.invariant-loop-place
invariant-loop-place l = record {
  left : l.left ≡ drop l.place l.fn.entries;
  within : l.place ≤ length l.fn.entries;
}
