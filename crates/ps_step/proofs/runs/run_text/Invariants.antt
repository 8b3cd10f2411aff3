use Rattle.std.proofs.Common.{◌-◌, ◌≤◌, length}
use Rattle.ps_ops_state.specs.Lent.{lent_of}
use Rattle.ps_step_interpreter.specs.OwnSteps.{HasRun}
use Rattle.ps_step.specs.Reading.{read_to}
use Rattle.ps_step.specs.Windows.{IsWindow}
use Rattle.ps_step.proofs.runs.run_text.Given as goal

-- so many were made, and the text was read up to a place
abbrev pub invariant-loop-made : goal.invariant-loop-made
invariant-loop-made g l = record {
  within : l.made ≤ l.most;
  framed : 1 ≤ length l.context.frames;
  window : IsWindow (g.M.Memory.heap l.runtime.memory) l.place.source l.window;
  makes : HasRun l.made
      (lent_of g.M.Memory.heap g.M.Memory.grants l.fn.context l.fn.runtime)
      (read_to l.place.source l.place.at (lent_of g.M.Memory.heap g.M.Memory.grants l.context l.runtime));
}

abbrev pub decreases-loop-made : goal.decreases-loop-made
decreases-loop-made g l = l.most - l.made
