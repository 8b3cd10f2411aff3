use Rattle.std.proofs.Common.{ℕ, ap, sym, subst, ◌∙◌, arith}
use Rattle.std.specs.Prelude.{◌==◌}
use native.Mathlib.Decide.{ℕ_discrete}
use Rattle.ps_core_machine.specs.declared.events.Vm.{Vm}
use Rattle.ps_core_machine.specs.Objects.{closes, log_of}
use Rattle.ps_core_machine.specs.Steps.{is_open}
use Rattle.ps_core_laws.proofs.HeapTests.{and_parts}
use Rattle.ps_core_laws.specs.Memory.{heap_of, is_shut}
use Rattle.ps_table.proofs.Kept.{sits_on}
use Rattle.ps_gc.specs.Ending.{IsEnded}
use Rattle.ps_gc.proofs.Ending.{ended_on}
use Rattle.ps_gc.proofs.Spaces.{knows_on}
use Rattle.ps_gc.proofs.endings.end_logs.Goals as goal

pub drain_closed-requires-clause-knows : goal.drain_closed-requires-clause-knows
drain_closed-requires-clause-knows g c =
    let x = c.close_one.ensures.stays in
    knows_on c.loop-slot.collector.gc.seat.me.0.gc
    c.close_one.new.collector.gc.seat.me.0.gc (x.gc_cycle, x.gc_epoch)
    c.loop-slot.invariant.knows

pub loop-slot-preserved : goal.loop-slot-preserved
loop-slot-preserved g c =
    let m = c.loop-slot.collector.gc.seat.me.0 in
    let n = c.close_one.new.collector.gc.seat.me.0 in
    let o = c.drain_closed.new.collector.gc.seat.me.0 in
    let slot = c.loop-slot.slot in
    let inv = c.loop-slot.invariant in
    let part = c.drain_closed.ensures.vm.part in
    let x = rw c.numbered-slot.ensures at c.close_one.ensures.stays in
    let y = rw c.numbered-slot.ensures at c.drain_closed.ensures.stays in
    let shut = rw c.numbered-slot.ensures at c.close_one.ensures.shut in
    let opened = (and_parts (is_open n.vm) (closes (log_of n.vm.logs slot) == n.vm.epoch) shut).0 in
    record {
      sits = sits_on _ _ _ _ _ (ap (λ t. t.words) c.drain_closed.ensures.same)
          c.close_one.ensures.sits c.drain_closed.ensures.vm c.drain_closed.new.collector.gc.empty;
      same = c.drain_closed.ensures.same ∙ (c.close_one.ensures.same ∙ inv.same);
      heap = ap heap_of part ∙ (c.close_one.ensures.heap ∙ inv.heap);
      cycle = ap (λ (v : Vm). v.cycle) part ∙ (x.cycle ∙ inv.cycle);
      opened = ap is_open part ∙ opened;
      knows = knows_on n.gc o.gc (y.gc_cycle, y.gc_epoch)
          (knows_on m.gc n.gc (x.gc_cycle, x.gc_epoch) inv.knows);
      ended = λ s lt. elim (ℕ_discrete s slot) [
        | yes is ↦ subst (λ (k : ℕ). IsEnded o k) (sym is) (record {
          shut = ap (λ (v : Vm). is_shut v slot) part ∙ shut;
          drained = rw c.numbered-slot.ensures at c.drain_closed.ensures.drained;
        })
        | no ne ↦ ended_on slot s n o y ne (ended_on slot s m n x ne (inv.ended s (omega arith)))
      ];
      pairs = λ a e. y.pairs a (x.pairs a (inv.pairs a e));
      handed = y.handed ∙ (x.handed ∙ inv.handed);
      stored = y.stored ∙ (x.stored ∙ inv.stored);
    }
