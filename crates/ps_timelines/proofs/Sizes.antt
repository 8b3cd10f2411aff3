-- A lane has as many levels as columns.
use Rattle.std.proofs.Common.{◌≡◌, ℕ, List, length}
use Rattle.std.proofs.lemmas.List.FromFn.{length-map-range_with_len}
use Rattle.ps_timelines.specs.declared.columns.Interval.{Interval}
use Rattle.ps_timelines.specs.declared.levels.LaneIntervals.{LaneIntervals}
use Rattle.ps_timelines.specs.declared.series.Series.{Series}
use Rattle.ps_timelines.specs.Columns.{columns}
use Rattle.ps_timelines.specs.Levels.{longest_share, longest_shares, series_level, series_levels}

pub levels_size : (series : Series) (steps : ℕ) (intervals : List Interval) (longests : List ℕ)
    → length (series_levels series steps intervals longests) ≡ columns steps
unfolding series_levels
levels_size series steps intervals longests =
    length-map-range_with_len (series_level series steps intervals longests) 0 (columns steps)

pub longest_size : (steps : ℕ) (drawn : LaneIntervals) → length (longest_shares steps drawn) ≡ columns steps
unfolding longest_shares
longest_size steps drawn = length-map-range_with_len (longest_share steps drawn) 0 (columns steps)
