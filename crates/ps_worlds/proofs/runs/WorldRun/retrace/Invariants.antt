use Rattle.std.proofs.Common.{◌≡◌, ◌++◌, length}
use Rattle.ps_language.specs.Schedules.{moves}
use Rattle.ps_worlds.specs.Runs.{standing, IsMade}
use Rattle.ps_worlds.proofs.runs.WorldRun.retrace.Given as goal

-- what was made and what is left are all
abbrev pub invariant-loop-entry : goal.invariant-loop-entry
invariant-loop-entry g l = record {
  program : l.self.runtime.shared.program.now ≡ l.fn.self.runtime.shared.program.now;
  made : IsMade (standing g.M.Memory.heap g.M.Memory.grants l.self);
  steps : moves l.self.path.items ++ moves l.left ≡ moves l.fn.schedule.items;
}

abbrev pub decreases-loop-entry : goal.decreases-loop-entry
decreases-loop-entry g l = length l.left
