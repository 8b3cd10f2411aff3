use Rattle.std.proofs.Common.{◌≡◌, ℕ, ◌<◌, ◌≤◌, length, get_or}
use Rattle.ps_timelines.specs.Columns.{columns, share}
use Rattle.ps_timelines.specs.Levels.{longest_share}
use Rattle.ps_timelines.proofs.levels.longest_shares.Given as goal

-- the columns so far have their longest share, and the others that of being ready
abbrev pub invariant-loop-column : goal.invariant-loop-column
invariant-loop-column l = record {
  size : length l.longests.items ≡ columns l.steps;
  done : (k : ℕ) → k < l.column → get_or l.longests.items k 0 ≡ longest_share l.steps l.drawn k;
  rest : (k : ℕ) → l.column ≤ k → k < columns l.steps
      → get_or l.longests.items k 0 ≡ share l.steps l.drawn.ready.items k;
}
