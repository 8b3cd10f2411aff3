use Rattle.std.proofs.Common.{◌≡◌, ◌≤◌, ◌++◌, length}
use Rattle.ps_run_schedules.specs.Keeping.{most_of}
use Rattle.ps_worlds.proofs.runs.copy_of.Given as goal

-- what was copied and what is left are all, for which there is room
abbrev pub invariant-loop-entry : goal.invariant-loop-entry
invariant-loop-entry l = record {
  items : l.copy.items ++ l.left ≡ l.schedule.items;
  room : length l.schedule.items ≤ l.copy.capacity;
  most : most_of l.copy ≡ length l.schedule.items;
}

abbrev pub decreases-loop-entry : goal.decreases-loop-entry
decreases-loop-entry l = length l.left
