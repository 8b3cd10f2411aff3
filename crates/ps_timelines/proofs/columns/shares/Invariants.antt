use Rattle.std.proofs.Common.{◌≡◌, ℕ, ◌<◌, length, take, get_or}
use Rattle.ps_timelines.specs.Columns.{columns, share}
use Rattle.ps_timelines.proofs.columns.shares.Given as goal

-- each column has what the intervals so far cover of it
abbrev pub invariant-loop-interval : goal.invariant-loop-interval
invariant-loop-interval l = record {
  size : length l.parts.items ≡ columns l.steps;
  each : (k : ℕ) → k < columns l.steps
      → get_or l.parts.items k 0 ≡ share l.steps (take l.interval-index l.intervals) k;
}
