use Rattle.std.proofs.Common.{◌≡◌, ◌++◌, take}
use Rattle.std.specs.List.{flat_map}
use Rattle.ps_timelines.specs.Lanes.{series_text}
use Rattle.ps_timelines.proofs.lanes.append_each_series.Given as goal

-- the all_series so far came behind what stood before
abbrev pub invariant-loop-series : goal.invariant-loop-series
invariant-loop-series l = l.to.items ≡ l.initial.to.items
    ++ flat_map (series_text l.scale.steps l.drawn l.longests) (take l.series-index l.all_series)
