use Rattle.std.proofs.Common.{◌≡◌, ◌<◌, ◌+◌, ◌-◌, ◌^◌, length}
use Rattle.std.specs.Prelude.{min}
use Rattle.ps_language.specs.Schedules.{count_of}
use Rattle.ps_run_schedules.proofs.steps.steps_of.Given as goal

-- the steps of the entries so far, and of those that are left
abbrev pub invariant-loop-entry : goal.invariant-loop-entry
invariant-loop-entry l = record {
  is : min (l.steps + count_of l.left) (2 ^ 64 - 1) ≡ min (count_of l.fn.schedule) (2 ^ 64 - 1);
  within : l.steps < 2 ^ 64;
}

abbrev pub decreases-loop-entry : goal.decreases-loop-entry
decreases-loop-entry l = length l.left
