use Rattle.std.proofs.Common.{◌≡◌, ◌++◌, length, map}
use Rattle.std.specs.Prelude.{reverse}
use Rattle.ps_run.specs.Orders.{report_of}
use Rattle.ps_run.proofs.orders.reports_of.Given as goal

-- those that are left, and behind them those that were taken from the end
abbrev pub invariant-loop-ending : goal.invariant-loop-ending
invariant-loop-ending l = record {
  all : map report_of l.fn.found.endings.entries
      ≡ map report_of l.found.endings.entries ++ reverse l.reports.items;
}

abbrev pub decreases-loop-ending : goal.decreases-loop-ending
decreases-loop-ending l = length l.found.endings.entries
