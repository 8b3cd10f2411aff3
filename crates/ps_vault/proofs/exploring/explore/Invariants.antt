use Rattle.std.proofs.Common.{◌≤◌, ◌-◌}
use Rattle.ps_vault.specs.Endings.{AreEndings}
use Rattle.ps_vault.proofs.exploring.explore.Given as goal

-- those so far ended so
abbrev pub invariant-loop-made : goal.invariant-loop-made
invariant-loop-made g l = record {
  within : l.made ≤ l.runs;
  are : AreEndings g.S.Interpret.asks l.task.program.now l.budget.steps
      (record { output = l.task.setup.output; entries = l.budget.entries }) l.made l.endings.items;
}

abbrev pub decreases-loop-made : goal.decreases-loop-made
decreases-loop-made g l = l.runs - l.made
