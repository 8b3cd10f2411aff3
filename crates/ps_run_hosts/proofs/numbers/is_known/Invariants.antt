use Rattle.std.proofs.Common.{◌≡◌, ◌<◌, ◌≤◌, ℕ, slice_index_or}
use Rattle.ps_run_hosts.specs.Hosts.{settings_known}
use Rattle.ps_run_hosts.proofs.numbers.is_known.Given as goal

-- those before it that aren't known are 0
abbrev pub invariant-loop-place : goal.invariant-loop-place
invariant-loop-place l =
    (k : ℕ) → settings_known ≤ k → k < l.place → slice_index_or l.fn.numbers k 0 ≡ 0
