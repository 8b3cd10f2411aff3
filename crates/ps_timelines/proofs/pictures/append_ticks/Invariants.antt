use Rattle.std.proofs.Common.{◌≡◌, ◌++◌}
use Rattle.std.specs.List.{flat_map, range_with_len}
use Rattle.ps_timelines.specs.Pictures.{tick_at}
use Rattle.ps_timelines.proofs.pictures.append_ticks.Given as goal

-- the ticks so far came behind what stood before
abbrev pub invariant-loop-index : goal.invariant-loop-index
invariant-loop-index l = l.to.items ≡ l.initial.to.items
    ++ flat_map (tick_at l.steps l.height) (range_with_len 0 l.index)
