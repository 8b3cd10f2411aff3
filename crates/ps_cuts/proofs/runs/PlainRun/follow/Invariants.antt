use Rattle.std.proofs.Common.{◌≡◌, ◌-◌, ◌≤◌, ◌++◌, true}
use Rattle.std.specs.Prelude.{replicate}
use Rattle.ps_language.specs.Schedules.{moves, plain_move}
use Rattle.ps_language.specs.Worlds.{all_ready}
use Rattle.ps_vault.specs.Stories.{world_at}
use Rattle.ps_cuts.specs.Runs.{IsMade}
use Rattle.ps_cuts.proofs.runs.PlainRun.follow.Given as goal

-- so many were made, and what is left can be
abbrev pub invariant-loop-left : goal.invariant-loop-left
invariant-loop-left g l = record {
  within : l.left ≤ l.steps;
  program : l.self.vault.program ≡ l.fn.self.vault.program;
  made : IsMade l.self.vault l.self.path.items l.self.turn l.self.last;
  steps : moves l.self.vault.schedule ≡ moves l.fn.self.vault.schedule
      ++ replicate (l.steps - l.left) (plain_move l.context);
  ready : all_ready (world_at l.self.vault) (replicate l.left (plain_move l.context)) ≡ true;
}

abbrev pub decreases-loop-left : goal.decreases-loop-left
decreases-loop-left g l = l.left
