use Rattle.std.proofs.Common.{◌≡◌, ◌-◌, ◌≤◌, ◌++◌, true}
use Rattle.std.specs.Prelude.{replicate}
use Rattle.ps_language.specs.Schedules.{moves, plain_move}
use Rattle.ps_language.specs.Worlds.{all_ready, world}
use Rattle.ps_worlds.specs.Runs.{standing, IsMade}
use Rattle.ps_worlds.proofs.runs.WorldRun.follow.Given as goal

-- so many were made, and what is left can be
abbrev pub invariant-loop-left : goal.invariant-loop-left
invariant-loop-left g l = record {
  within : l.left ≤ l.steps;
  program : l.self.runtime.shared.program.now ≡ l.fn.self.runtime.shared.program.now;
  made : IsMade (standing g.M.Memory.heap g.M.Memory.grants l.self);
  steps : moves l.self.path.items ≡ moves l.fn.self.path.items
      ++ replicate (l.steps - l.left) (plain_move l.context);
  ready : all_ready (world l.self.runtime.shared.program.now l.self.path.items)
      (replicate l.left (plain_move l.context)) ≡ true;
}

abbrev pub decreases-loop-left : goal.decreases-loop-left
decreases-loop-left g l = l.left
