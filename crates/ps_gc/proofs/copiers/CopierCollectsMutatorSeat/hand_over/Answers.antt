use Rattle.std.proofs.Common.{sym, ap, ◌∙◌}
use Rattle.std.specs.Result.{is_ok}
use Rattle.ps_mem.specs.Heap.{Grants}
use Rattle.ps_gc.proofs.Spaces.{values_name}
use Rattle.ps_gc.specs.Known.{are_known}
use Rattle.ps_gc.proofs.Sides.{all_known, known_put}
use Rattle.ps_gc.proofs.copiers.CopierCollectsMutatorSeat.hand_over.Goals as goal

pub hand_over-requires-clause-stand : goal.hand_over-requires-clause-stand
hand_over-requires-clause-stand g c =
    values_name c.args.memory.now.vm.seat.me.0.vm c.args.roots.now c.requires.values

pub invariant_of-self : goal.invariant_of-self
invariant_of-self g c =
    let s = c.args.self.now in
    let h = c.hand_over.ensures in
    let part = c.hand_over.new.self.gc.seat.me.0.gc in
    let still = ap (λ (g : Grants). g.cycle_open) h.grants in
    let opened = c.«is_open-self».ensures ∙ still in
    record {
      named = h.same.0 ∙ s.named;
      knows = h.knows ∙ sym opened;
      known = λ yes. ap (are_known part) c.extend_from_slice.ensures.items
          ∙ known_put part c.clear.new.self.items c.args.roots.now
          (is_ok c.extend_from_slice.result) c.clear.ensures.items
          (all_known part c.args.roots.now (h.known (sym opened ∙ yes)));
    }
