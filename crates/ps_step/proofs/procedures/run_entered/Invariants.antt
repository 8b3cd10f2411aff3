use Rattle.std.proofs.Common.{◌+◌, ◌-◌, ◌≤◌, length}
use Rattle.ps_ops_state.specs.Lent.{lent_of}
use Rattle.ps_step_frames.specs.Steps.{above, frames_after, with_frames}
use Rattle.ps_step_interpreter.specs.OwnSteps.{HasRun}
use Rattle.ps_step.proofs.procedures.run_entered.Given as goal

-- so many were made, and what is left of the procedure is above the frames
abbrev pub invariant-loop-end : goal.invariant-loop-end
invariant-loop-end g l = record {
  few : l.left ≤ l.most;
  within : l.end ≤ l.left;
  part : l.end ≤ l.rest.length;
  room : 1 + length l.context.frames ≤ 250;
  ahead : 1 ≤ l.end → 2 + length l.context.frames ≤ 250;
  some : 1 ≤ l.most → 1 ≤ (l.most - l.left) + l.end;
  makes : HasRun (l.most - l.left)
      (above l.fn.entered (lent_of g.M.Memory.heap g.M.Memory.grants l.fn.context l.fn.runtime))
      (with_frames (frames_after 0 l.rest l.context.frames)
      (lent_of g.M.Memory.heap g.M.Memory.grants l.context l.runtime));
}

abbrev pub decreases-loop-end : goal.decreases-loop-end
decreases-loop-end g l = l.left
