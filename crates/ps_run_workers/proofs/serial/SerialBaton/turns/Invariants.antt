use Rattle.std.proofs.Common.{◌≡◌}
use Rattle.ps_run_workers.proofs.serial.SerialBaton.turns.Given as goal

-- only the world goes on
abbrev pub invariant-loop : goal.invariant-loop
invariant-loop g l = record {
  program : l.self.baton.story.program ≡ l.fn.self.baton.story.program;
  config : l.self.baton.config ≡ l.fn.self.baton.config;
}
