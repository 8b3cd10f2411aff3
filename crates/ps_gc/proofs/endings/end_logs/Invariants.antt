use Rattle.std.proofs.Common.{◌≡◌, ◌<◌, ℕ, true}
use Rattle.ps_core_machine.specs.Steps.{is_open, knows_open}
use Rattle.ps_core_laws.specs.Memory.{heap_of}
use Rattle.ps_table.specs.Mirrored.{Sits}
use Rattle.ps_gc.specs.Ending.{IsEnded, KeepsReplicas}
use Rattle.ps_gc.proofs.endings.end_logs.Given as goal

-- the memory and the number of flips are as they were, both sides know that a cycle is open, the
-- first logs are ended, and what had a replica has one
abbrev pub invariant-loop-slot : goal.invariant-loop-slot
invariant-loop-slot g l = record {
  sits : Sits (g.W.Words.id l.collector.gc.table).words l.collector.gc.seat.me l.mirror;
  same : g.W.Words.id l.collector.gc.table ≡ g.W.Words.id l.fn.collector.gc.table;
  heap : heap_of l.collector.gc.seat.me.0.vm ≡ heap_of l.fn.collector.gc.seat.me.0.vm;
  cycle : l.collector.gc.seat.me.0.vm.cycle ≡ l.fn.collector.gc.seat.me.0.vm.cycle;
  opened : is_open l.collector.gc.seat.me.0.vm ≡ true;
  knows : knows_open l.collector.gc.seat.me.0.gc ≡ true;
  ended : (slot : ℕ) → slot < l.slot → IsEnded l.collector.gc.seat.me.0 slot;
  pairs : KeepsReplicas l.fn.collector.gc.seat.me.0.gc.pairs
      l.collector.gc.seat.me.0.gc.pairs;
  handed : l.collector.gc.seat.me.0.gc.handed ≡ l.fn.collector.gc.seat.me.0.gc.handed;
  stored : l.collector.gc.seat.me.0.vm.stored ≡ l.fn.collector.gc.seat.me.0.vm.stored;
}
