use Rattle.std.proofs.Common.{◌≡◌, ◌<◌, ◌≤◌, ◌^◌, ◌++◌, drop, length}
use Rattle.ps_language.specs.Schedules.{moves, moves_of}
use Rattle.ps_walks.proofs.singles.Singles.next.Given as goal

-- the same steps are left
abbrev pub invariant-loop-self : goal.invariant-loop-self
invariant-loop-self l = record {
  fits : l.self-inside.entry.steps < 2 ^ 32;
  within : l.self-inside.made ≤ l.self-inside.entry.steps;
  left : drop l.self-inside.made (moves_of l.self-inside.entry l.self-inside.entry.steps)
      ++ moves l.self-inside.left ≡ l.fn.self;
}

abbrev pub decreases-loop-self : goal.decreases-loop-self
decreases-loop-self l = length l.self-inside.left
