use Rattle.std.proofs.Common.{◌≡◌, ◌++◌, List, ℕ, drop}
use Rattle.ps_run.specs.Orders.{AreLinesBehind}
use Rattle.ps_run.proofs.orders.append_endings.Given as goal

-- the lines so far, and those of the endings that are left are wanted
abbrev pub invariant-loop-place : goal.invariant-loop-place
invariant-loop-place g l = record {
  lines : (lines : List ℕ) × (l.to.items ≡ l.fn.to.items ++ lines)
      × ((rest : List ℕ)
      → AreLinesBehind l.file l.runs.task.program.now l.place
      (drop l.place l.found.endings.entries) rest
      → AreLinesBehind l.file l.runs.task.program.now 0 l.found.endings.entries (lines ++ rest));
}
