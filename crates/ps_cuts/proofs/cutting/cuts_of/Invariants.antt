use Rattle.std.proofs.Common.{◌≡◌, ◌++◌, [], length}
use Rattle.ps_language.specs.Schedules.{moves}
use Rattle.ps_language.specs.Worlds.{starting_world}
use Rattle.ps_cuts.specs.Cuts.{cuts_at}
use Rattle.ps_cuts.specs.Runs.{IsMade}
use Rattle.ps_cuts.proofs.cutting.cuts_of.Given as goal

-- what was made and what is left are all, and of what was made the cuts are known
abbrev pub invariant-loop-entry : goal.invariant-loop-entry
invariant-loop-entry g l = record {
  program : l.run.vault.program ≡ l.runs.task.program.now;
  made : IsMade l.run.vault l.run.path.items l.run.turn l.run.last;
  steps : moves l.run.vault.schedule ++ moves l.left ≡ moves l.schedule.items;
  here : l.marks.steps ≡ length (moves l.run.vault.schedule);
  cuts : l.marks.cuts.items ≡ cuts_at (starting_world l.runs.task.program.now) []
      (moves l.run.vault.schedule);
}

abbrev pub decreases-loop-entry : goal.decreases-loop-entry
decreases-loop-entry g l = length l.left
