use Rattle.std.proofs.Common.{◌≡◌, List, Some}
use Rattle.ps_core_machine.specs.declared.events.Event.{Event}
use Rattle.ps_core_machine.specs.declared.events.Half.{Half}
use Rattle.ps_table.specs.Events.{gc_did_all}
use Rattle.ps_gc.specs.Events.{Applied}
use Rattle.ps_gc.specs.Keeps.{Copies, IsAtField}
use Rattle.ps_gc.proofs.drains.copy_fields.Given as goal

-- so many fields of the record were loaded
abbrev pub invariant-loop-k : goal.invariant-loop-k
invariant-loop-k g l = record {
  applied : Applied l.fn.gc.seat.me.0.gc l.gc.seat.me.0.gc;
  taking : (h : Half) → l.fn.gc.seat.me.0.gc.taking ≡ Some h
      → l.gc.seat.me.0.gc.taking ≡ Some (record h { loaded = l.k });
  did : (es : List Event) × (l.gc.seat.me.0 ≡ gc_did_all l.fn.gc.seat.me.0 es);
  copies : Copies l.gc.seat.me.0.gc l.to;
  field : IsAtField l.gc.seat.me.0.gc l.to;
  same : g.W.Words.id l.gc.table ≡ g.W.Words.id l.fn.gc.table;
}
