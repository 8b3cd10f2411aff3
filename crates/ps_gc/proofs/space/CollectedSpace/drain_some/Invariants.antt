use Rattle.std.proofs.Common.{◌≡◌, true}
use Rattle.ps_core_machine.specs.Steps.{knows_open}
use Rattle.ps_table.specs.Mirrored.{KeepsVm}
use Rattle.ps_gc.proofs.space.CollectedSpace.drain_some.Given as goal

-- the mutator's side is as it was, and the collector knows that a cycle is open
abbrev pub invariant-loop : goal.invariant-loop
invariant-loop g l = record {
  vm : KeepsVm l.fn.self.collector.gc.seat.me.0 l.self.collector.gc.seat.me.0;
  knows : knows_open l.self.collector.gc.seat.me.0.gc ≡ true;
}
