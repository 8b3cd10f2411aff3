-- How high each column of a lane is marked.
use Rattle.std.specs.Prelude.{ℕ, zero, suc, ◌*◌, ◌/◌, ◌==◌, List, map, max, min, nat_lt}
use Rattle.std.specs.Prelude.{slice_index, if◌then◌else◌}
use Rattle.std.specs.List.{range_with_len}
use Rattle.ps_timelines.specs.declared.columns.Interval.{Interval}
use Rattle.ps_timelines.specs.declared.levels.LaneIntervals.{LaneIntervals}
use Rattle.ps_timelines.specs.declared.series.Series.{Series}
use Rattle.ps_timelines.specs.declared.series.Series.TheVariants.{Ready, Lock, Condition, Join}
use Rattle.ps_timelines.specs.declared.series.Series.TheVariants.{Steps, Owner, Print, Error}
use Rattle.ps_timelines.specs.Columns.{columns, share}

-- a bar is as high as its share of a lane of 30 pixels, but at least 4
abbrev pub bar_height : (steps share : ℕ) → ℕ
bar_height steps zero = 0
bar_height steps (suc share) = max (30 * suc share / steps) 4

-- what has more than half of a column is marked in it
abbrev pub half_height : (steps share : ℕ) → ℕ
half_height steps share = if nat_lt steps (2 * share) then 4 else 0

-- a line is drawn where steps have less than three quarters of a column
abbrev pub longest : (steps stepping greatest : ℕ) → ℕ
longest steps stepping greatest = if nat_lt (4 * stepping) (3 * steps) then greatest else 0

-- and it is that of the state with the greatest share
abbrev pub line_level : (longest share : ℕ) → ℕ
line_level longest zero = 0
line_level longest (suc share) = if suc share == longest then 1 else 0

-- ---- what a context does

-- the intervals of a series
abbrev pub intervals_of : LaneIntervals → Series → List Interval
intervals_of drawn Ready = drawn.ready.items
intervals_of drawn Lock = drawn.lock.items
intervals_of drawn Condition = drawn.condition.items
intervals_of drawn Join = drawn.join.items
intervals_of drawn Steps = drawn.steps.items
intervals_of drawn Owner = drawn.owner.items
intervals_of drawn Print = drawn.print.items
intervals_of drawn Error = drawn.error.items

-- how high a column is marked of which a series has this share
abbrev pub level_of : Series → (steps longest share : ℕ) → ℕ
level_of Ready steps longest share = line_level longest share
level_of Lock steps longest share = line_level longest share
level_of Condition steps longest share = line_level longest share
level_of Join steps longest share = line_level longest share
level_of Steps steps longest share = bar_height steps share
level_of Owner steps longest share = half_height steps share
level_of Print steps longest share = min share 1
level_of Error steps longest share = min share 1

-- the share of the state in which a column's context waits or is ready longest
unfoldable pub longest_share : (steps : ℕ) → LaneIntervals → (column : ℕ) → ℕ
longest_share steps drawn column = longest steps (share steps drawn.steps.items column)
    (max (max (max (share steps drawn.ready.items column) (share steps drawn.lock.items column))
    (share steps drawn.condition.items column)) (share steps drawn.join.items column))

unfoldable pub longest_shares : (steps : ℕ) → LaneIntervals → List ℕ
longest_shares steps drawn = map (longest_share steps drawn) (range_with_len 0 (columns steps))

unfoldable pub series_level : Series → (steps : ℕ) → List Interval → (longests : List ℕ)
    → (column : ℕ) → ℕ
series_level series steps intervals longests column =
    level_of series steps (slice_index longests column) (share steps intervals column)

unfoldable pub series_levels : Series → (steps : ℕ) → List Interval → (longests : List ℕ) → List ℕ
series_levels series steps intervals longests =
    map (series_level series steps intervals longests) (range_with_len 0 (columns steps))
