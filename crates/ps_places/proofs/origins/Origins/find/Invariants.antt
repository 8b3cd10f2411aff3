use Rattle.std.proofs.Common.{◌≤◌, ◌-◌, length}
use Rattle.ps_places.proofs.Rising.{UpTo, Later}
use Rattle.ps_places.proofs.origins.Origins.find.Given as goal

-- those below aren't born later, and those from there on are
abbrev pub invariant-loop-low : goal.invariant-loop-low
invariant-loop-low l = record {
  low : l.low ≤ l.high;
  high : l.high ≤ length l.self-inside.list.items;
  up : UpTo l.birth l.self-inside.list.items l.low;
  later : Later l.birth l.self-inside.list.items l.high;
}

abbrev pub decreases-loop-low : goal.decreases-loop-low
decreases-loop-low l = l.high - l.low
