use Rattle.std.proofs.Common.{◌≡◌, ◌∷◌, take}
use Rattle.ps_core_machine.specs.declared.events.Event.TheVariants.{VmLoad}
use Rattle.ps_core_laws.specs.Memory.{heap_of}
use Rattle.ps_table.specs.Events.{did_all, head_loads}
use Rattle.ps_table.specs.Mirrored.{Sits}
use Rattle.ps_table.proofs.mirror.Mirror.counts.Given as goal

-- the heads of the slots before are loaded
abbrev pub invariant-loop-slot : goal.invariant-loop-slot
invariant-loop-slot g l = record {
  seated : g.W.Words.seats l.words l.seat;
  sits : Sits (g.W.Words.id l.words).words l.seat.me l.self;
  same : g.W.Words.id l.words ≡ g.W.Words.id l.fn.words;
  heap : heap_of l.seat.me.0.vm ≡ heap_of l.fn.seat.me.0.vm;
  did : l.seat.me.0 ≡ did_all l.fn.seat.me.0
      (VmLoad 0 l.flips ∷ head_loads 0 (take l.slot l.self.heads));
}
