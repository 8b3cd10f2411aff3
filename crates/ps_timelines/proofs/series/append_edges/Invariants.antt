use Rattle.std.proofs.Common.{◌≡◌, ◌++◌, ◌∷◌, slice_index}
use Rattle.std.specs.List.{flat_map, range_with_len}
use Rattle.ps_timelines.specs.Series.{column_text}
use Rattle.ps_timelines.proofs.series.append_edges.Given as goal

-- the edges so far came behind what stood before, and the level of the column before is known
abbrev pub invariant-loop-column : goal.invariant-loop-column
invariant-loop-column l = record {
  is : l.to.items ≡ l.initial.to.items
      ++ flat_map (column_text l.series l.levels) (range_with_len 0 l.column);
  before : l.before ≡ slice_index (0 ∷ l.levels) l.column;
}
