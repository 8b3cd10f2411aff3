use Rattle.std.proofs.Common.{◌≡◌, ℕ, ◌+◌, ◌<◌, ◌≤◌, length, min, get_or}
use Rattle.ps_timelines.specs.Columns.{columns, covered}
use Rattle.ps_timelines.proofs.columns.add.Given as goal

-- the columns so far have what the interval covers of them, and the others are as they were
abbrev pub invariant-loop-column : goal.invariant-loop-column
invariant-loop-column l = record {
  size : length l.parts.items ≡ columns l.steps;
  done : (k : ℕ) → k < l.column → k < columns l.steps → get_or l.parts.items k 0
      ≡ min (get_or l.initial.parts.items k 0 + covered l.steps k l.interval) l.steps;
  rest : (k : ℕ) → l.column ≤ k → get_or l.parts.items k 0 ≡ get_or l.initial.parts.items k 0;
}
