use Rattle.std.proofs.Common.{◌≡◌, true, List, take, drop}
use Rattle.ps_core_machine.specs.declared.events.Event.{Event}
use Rattle.ps_core_machine.specs.Objects.{values_have_replicas}
use Rattle.ps_core_laws.specs.Stores.{numbers}
use Rattle.ps_table.specs.Events.{gc_did_all}
use Rattle.ps_gc.specs.Events.{Adds, AreKnown}
use Rattle.ps_gc.proofs.collector.Collector.add_roots.Given as goal

-- the roots before this one have replicas, and the others are known
abbrev pub invariant-loop-root : goal.invariant-loop-root
invariant-loop-root g l = record {
  known : AreKnown l.fn.self.gc.seat.me.0.gc (numbers (drop l.root-index l.roots));
  stand : values_have_replicas l.self.gc.seat.me.0.gc.pairs (numbers (take l.root-index l.roots))
      ≡ true;
  adds : Adds l.fn.self.gc.seat.me.0.gc l.self.gc.seat.me.0.gc;
  did : (es : List Event) × (l.self.gc.seat.me.0 ≡ gc_did_all l.fn.self.gc.seat.me.0 es);
  same : g.W.Words.id l.self.gc.table ≡ g.W.Words.id l.fn.self.gc.table;
}
