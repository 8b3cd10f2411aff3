use Rattle.std.proofs.Common.{◌≡◌, ◌++◌, length}
use Rattle.ps_language.specs.Schedules.{moves}
use Rattle.ps_cuts.specs.Runs.{IsMade}
use Rattle.ps_cuts.proofs.runs.PlainRun.retrace.Given as goal

-- what was made and what is left are all
abbrev pub invariant-loop-entry : goal.invariant-loop-entry
invariant-loop-entry g l = record {
  program : l.self.vault.program ≡ l.fn.self.vault.program;
  made : IsMade l.self.vault l.self.path.items l.self.turn l.self.last;
  steps : moves l.self.vault.schedule ++ moves l.left ≡ moves l.fn.schedule.items;
}

abbrev pub decreases-loop-entry : goal.decreases-loop-entry
decreases-loop-entry g l = length l.left
