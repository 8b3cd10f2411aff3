use Rattle.std.proofs.Common.{◌≡◌}
use Rattle.std.specs.Prelude.{IsSome}
use Rattle.ps_run_workers.proofs.batons.Baton.make_turns.Given as goal

-- only the world goes on, and where the run is over nothing does
abbrev pub invariant-loop : goal.invariant-loop
invariant-loop g l = record {
  program : l.self.story.program ≡ l.fn.self.story.program;
  config : l.self.config ≡ l.fn.self.config;
  over : IsSome l.fn.self.outcome → l.self ≡ l.fn.self;
}
