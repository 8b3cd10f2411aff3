-- How much of each column of a lane intervals of steps cover.
use Rattle.std.specs.Prelude.{ℕ, ◌+◌, ◌-◌, ◌*◌, List, max, min}
use Rattle.std.specs.List.{sum_by}
use Rattle.ps_timelines.specs.declared.columns.Interval.{Interval}

-- a step has a column of its own, as long as there are at most 1,000
abbrev pub columns : (steps : ℕ) → ℕ
columns steps = max (min steps 1000) 1

-- how many parts of a column an interval covers: a step has as many parts as there are columns,
-- and a column as many as there are steps
unfoldable pub covered : (steps column : ℕ) → Interval → ℕ
covered steps column interval = min (columns steps * interval.to) (column * steps + steps)
    - max (columns steps * interval.from) (column * steps)

-- the same of all intervals, but at most the whole column
unfoldable pub share : (steps : ℕ) → List Interval → (column : ℕ) → ℕ
share steps intervals column = min (sum_by (covered steps column) intervals) steps
