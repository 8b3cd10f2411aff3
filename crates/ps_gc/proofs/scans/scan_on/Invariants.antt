use Rattle.std.proofs.Common.{◌≡◌, ◌-◌, ◌+◌, ◌≤◌, ℕ, Some, List, length}
use Rattle.ps_core_machine.specs.declared.events.Event.{Event}
use Rattle.ps_core_machine.specs.declared.events.Pair.{Pair}
use Rattle.ps_core_machine.specs.Objects.{pair_of}
use Rattle.ps_table.specs.Events.{gc_did_all}
use Rattle.ps_gc.specs.Keeps.{Copies}
use Rattle.ps_gc.proofs.scans.scan_on.Given as goal

-- the part stays, and the count is that of the replica at the place
abbrev pub invariant-passed : goal.invariant-passed
invariant-passed g l = record {
  copies : Copies l.gc.seat.me.0.gc l.to;
  counts : (a : ℕ) (p : Pair) → pair_of l.gc.seat.me.0.gc.pairs a ≡ Some p
      → p.replica ≡ l.to.at → length p.fields ≡ l.count;
  part : l.gc.seat.me.0.gc ≡ l.initial.gc.seat.me.0.gc;
  onward : l.initial.to.at + l.initial.to.field ≤ l.to.at + l.to.field;
  same : g.W.Words.id l.gc.table ≡ g.W.Words.id l.initial.gc.table;
  did : (es : List Event) × (l.gc.seat.me.0 ≡ gc_did_all l.initial.gc.seat.me.0 es);
}

abbrev pub decreases-passed : goal.decreases-passed
decreases-passed g l = l.to.end - l.to.at
