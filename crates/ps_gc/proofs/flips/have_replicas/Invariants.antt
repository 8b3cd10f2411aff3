use Rattle.std.proofs.Common.{◌≡◌, true, drop}
use Rattle.ps_core_machine.specs.Objects.{values_have_replicas, values_stand}
use Rattle.ps_core_laws.specs.Stores.{numbers}
use Rattle.ps_core_laws.specs.Looks.{OnlyLooks}
use Rattle.ps_table.specs.Mirrored.{Sits}
use Rattle.ps_gc.proofs.flips.have_replicas.Given as goal

-- the roots before this one have replicas, and both parts are as before
abbrev pub invariant-loop-root : goal.invariant-loop-root
invariant-loop-root g l = record {
  left : values_have_replicas l.fn.gc.seat.me.0.gc.pairs (numbers (drop l.root-index l.roots))
      ≡ values_have_replicas l.fn.gc.seat.me.0.gc.pairs (numbers l.roots);
  stand : values_stand l.fn.gc.seat.me.0.vm.objects (numbers (drop l.root-index l.roots)) ≡ true;
  vm_part : l.gc.seat.me.0.vm ≡ l.fn.gc.seat.me.0.vm;
  gc_part : l.gc.seat.me.0.gc ≡ l.fn.gc.seat.me.0.gc;
  steps : OnlyLooks l.root-index l.fn.gc.seat.me.0.vm_events l.gc.seat.me.0.vm_events;
  gc_steps : l.gc.seat.me.0.gc_events ≡ l.fn.gc.seat.me.0.gc_events;
  sits : Sits (g.W.Words.id l.gc.table).words l.gc.seat.me l.mirror;
  same : g.W.Words.id l.gc.table ≡ g.W.Words.id l.fn.gc.table;
}
