use Rattle.std.proofs.Common.{◌≡◌, ℕ, ◌<◌, ◌≤◌, length, get_or}
use Rattle.ps_timelines.specs.Columns.{columns, share}
use Rattle.ps_timelines.specs.Levels.{series_level}
use Rattle.ps_timelines.proofs.levels.series_levels.Given as goal

-- the columns so far have their level, and the others their share
abbrev pub invariant-loop-column : goal.invariant-loop-column
invariant-loop-column l = record {
  size : length l.marked.items ≡ columns l.steps;
  done : (k : ℕ) → k < l.column
      → get_or l.marked.items k 0 ≡ series_level l.series l.steps l.intervals l.longests k;
  rest : (k : ℕ) → l.column ≤ k → k < columns l.steps
      → get_or l.marked.items k 0 ≡ share l.steps l.intervals k;
}
