use Rattle.std.proofs.Common.{◌≡◌, ◌++◌, length, map}
use Rattle.std.specs.Prelude.{reverse}
use Rattle.ps_run.specs.Worlds.{way_report}
use Rattle.ps_run.proofs.worlds.reports_of.Given as goal

-- those that are left, and behind them those that were taken from the end
abbrev pub invariant-loop-ending : goal.invariant-loop-ending
invariant-loop-ending l = record {
  all : map way_report l.fn.covered.endings.entries
      ≡ map way_report l.covered.endings.entries ++ reverse l.reports.items;
}

abbrev pub decreases-loop-ending : goal.decreases-loop-ending
decreases-loop-ending l = length l.covered.endings.entries
