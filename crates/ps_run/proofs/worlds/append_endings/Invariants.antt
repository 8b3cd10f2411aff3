use Rattle.std.proofs.Common.{◌≡◌, ◌++◌, drop}
use Rattle.ps_run.specs.Worlds.{lines_behind}
use Rattle.ps_run.proofs.worlds.append_endings.Given as goal

-- the lines so far, and behind them those of the endings that are left
abbrev pub invariant-loop-place : goal.invariant-loop-place
invariant-loop-place l = record {
  lines : l.to.items ++ lines_behind l.place (drop l.place l.covered.endings.entries)
      ≡ l.fn.to.items ++ lines_behind 0 l.covered.endings.entries;
}
