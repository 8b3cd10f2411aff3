use Rattle.std.proofs.Common.{◌≡◌, ◌+◌, ◌-◌, ◌≤◌, ◌++◌, length, true}
use Rattle.std.specs.Prelude.{replicate}
use Rattle.ps_language.specs.Schedules.{moves, plain_move}
use Rattle.ps_language.specs.Worlds.{all_ready, starting_world}
use Rattle.ps_vault.specs.Stories.{world_at}
use Rattle.ps_cuts.specs.Cuts.{cuts_at}
use Rattle.ps_cuts.specs.Runs.{IsMade}
use Rattle.ps_cuts.proofs.runs.PlainRun.follow_marked.Given as goal

-- so many were made, with their cuts, and what is left can be
abbrev pub invariant-loop-left : goal.invariant-loop-left
invariant-loop-left g l = record {
  within : l.left ≤ l.steps;
  program : l.self.vault.program ≡ l.fn.self.vault.program;
  made : IsMade l.self.vault l.self.path.items l.self.turn l.self.last;
  steps : moves l.self.vault.schedule ≡ moves l.fn.self.vault.schedule
      ++ replicate (l.steps - l.left) (plain_move l.context);
  ready : all_ready (world_at l.self.vault) (replicate l.left (plain_move l.context)) ≡ true;
  here : l.marks.steps ≡ length (moves l.self.vault.schedule);
  counted : l.marks.steps + l.left ≡ l.fn.marks.steps + l.steps;
  cuts : l.marks.cuts.items ≡ l.fn.marks.cuts.items
      ++ cuts_at (starting_world l.fn.self.vault.program) (moves l.fn.self.vault.schedule)
      (replicate (l.steps - l.left) (plain_move l.context));
}

abbrev pub decreases-loop-left : goal.decreases-loop-left
decreases-loop-left g l = l.left
