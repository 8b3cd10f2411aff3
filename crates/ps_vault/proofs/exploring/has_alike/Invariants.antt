use Rattle.std.proofs.Common.{◌≡◌, ◌<◌, ℕ}
use Rattle.std.specs.Prelude.{slice_index_or}
use Rattle.ps_vault.specs.declared.reports.Report.{Report}
use Rattle.ps_vault.specs.Endings.{IsAlike}
use Rattle.ps_vault.proofs.exploring.has_alike.Given as goal

-- none so far did
abbrev pub invariant-loop-ending : goal.invariant-loop-ending
invariant-loop-ending l = (place : ℕ) → place < l.ending-index → (other : Report)
    → slice_index_or l.endings place other ≡ other → ¬ IsAlike l.report other
