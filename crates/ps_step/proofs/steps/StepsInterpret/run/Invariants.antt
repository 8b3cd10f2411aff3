use Rattle.std.proofs.Common.{◌-◌, ◌≤◌}
use Rattle.ps_ops_state.specs.Lent.{lent_of}
use Rattle.ps_step_interpreter.specs.OwnSteps.{HasRun}
use Rattle.ps_step.proofs.steps.StepsInterpret.run.Given as goal

-- so many were made
abbrev pub invariant-loop-made : goal.invariant-loop-made
invariant-loop-made g l = record {
  within : l.made ≤ l.most;
  makes : HasRun l.made
      (lent_of g.M.Memory.heap g.M.Memory.grants l.fn.context l.fn.runtime)
      (lent_of g.M.Memory.heap g.M.Memory.grants l.context l.runtime);
}

abbrev pub decreases-loop-made : goal.decreases-loop-made
decreases-loop-made g l = l.most - l.made
