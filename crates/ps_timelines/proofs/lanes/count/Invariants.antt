use Rattle.std.proofs.Common.{◌≡◌, take}
use Rattle.ps_timelines.specs.Lanes.{count}
use Rattle.ps_timelines.proofs.lanes.count.Given as goal

-- the intervals so far are counted
abbrev pub invariant-loop-interval : goal.invariant-loop-interval
invariant-loop-interval l = l.sum ≡ count l.steps (take l.interval-index l.intervals)
