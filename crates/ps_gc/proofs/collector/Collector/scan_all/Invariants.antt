use Rattle.std.proofs.Common.{◌≡◌, ◌+◌, ◌-◌, ◌^◌, List, true}
use Rattle.ps_core_machine.specs.declared.events.Event.{Event}
use Rattle.ps_core_machine.specs.Steps.{knows_open}
use Rattle.ps_table.specs.Events.{gc_did_all}
use Rattle.ps_gc.specs.Ending.{Scans}
use Rattle.ps_gc.proofs.collector.Collector.scan_all.Given as goal

-- fields were filled, and nothing else happened
abbrev pub invariant-scan : goal.invariant-scan
invariant-scan g l = record {
  knows : knows_open l.self.gc.seat.me.0.gc ≡ true;
  scans : Scans l.fn.self.gc.seat.me.0.gc l.self.gc.seat.me.0.gc;
  did : (es : List Event) × (l.self.gc.seat.me.0 ≡ gc_did_all l.fn.self.gc.seat.me.0 es);
  same : g.W.Words.id l.self.gc.table ≡ g.W.Words.id l.fn.self.gc.table;
}

abbrev pub decreases-scan : goal.decreases-scan
decreases-scan g l = 2 ^ 24 - (l.self.to.at + l.self.to.field)
