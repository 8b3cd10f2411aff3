use Rattle.std.proofs.Common.{◌≡◌, true}
use Rattle.ps_run_workers.specs.Batons.{SameProgress}
use Rattle.ps_run_workers.proofs.batons.Baton.close_logs.Given as goal

-- only logs were closed
abbrev pub invariant-loop-slot : goal.invariant-loop-slot
invariant-loop-slot g l = record {
  same : SameProgress l.fn.self l.self;
  opened : l.self.story.cycle_open ≡ true;
}
