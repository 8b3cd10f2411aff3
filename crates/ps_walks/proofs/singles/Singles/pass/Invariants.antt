use Rattle.std.proofs.Common.{◌≡◌, ◌<◌, ◌≤◌, ◌^◌, ◌++◌, drop, length}
use Rattle.ps_language.specs.Schedules.{moves, moves_of}
use Rattle.ps_walks.proofs.singles.Singles.pass.Given as goal

-- behind so many more are those that are to be left
abbrev pub invariant-loop-more : goal.invariant-loop-more
invariant-loop-more l = record {
  fits : l.self-inside.entry.steps < 2 ^ 32;
  within : l.self-inside.made ≤ l.self-inside.entry.steps;
  left : drop l.more (drop l.self-inside.made
      (moves_of l.self-inside.entry l.self-inside.entry.steps)
      ++ moves l.self-inside.left) ≡ drop l.steps l.fn.self;
}

abbrev pub decreases-loop-more : goal.decreases-loop-more
decreases-loop-more l = length l.self-inside.left
