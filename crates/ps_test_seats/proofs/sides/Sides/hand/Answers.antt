use Rattle.std.proofs.Common.{sym, ap, subst, ◌∙◌}
use Rattle.std.specs.Result.{is_ok}
use Rattle.ps_mem.specs.Heap.{Grants}
use Rattle.ps_mem.specs.Shows.{AreValues}
use Rattle.ps_core_laws.specs.Memory.{heap_of}
use Rattle.ps_gc.proofs.Spaces.{values_name}
use Rattle.ps_gc.specs.Known.{are_known}
use Rattle.ps_gc.proofs.Sides.{all_known, known_put}
use Rattle.ps_test_seats.proofs.sides.Sides.hand.Goals as goal

pub hand_over-requires-clause-stand : goal.hand_over-requires-clause-stand
hand_over-requires-clause-stand g c =
    let vm = c.arrays.inside.memory.vm.seat.me.0.vm in
    values_name vm c.as_slice-words.result.now
    (subst (AreValues (heap_of vm)) (sym c.as_slice-words.ensures.value) c.arrays.invariant.values)

pub invariant_of-self : goal.invariant_of-self
invariant_of-self g c =
    let handed = c.hand_over.ensures in
    let part = c.hand_over.new.self.gc.seat.me.0.gc in
    let words = c.as_slice-words.result.now in
    let still = ap (λ (h : Grants). h.cycle_open) handed.grants in
    let opened = c.«is_open-self».ensures ∙ still in
    record {
      named = handed.same.0 ∙ c.args.self.now.named;
      knows = handed.knows ∙ sym opened;
      known = λ yes. ap (are_known part) c.extend_from_slice.ensures.items
          ∙ known_put part c.clear.new.self.items words (is_ok c.extend_from_slice.result)
          c.clear.ensures.items (all_known part words (handed.known (sym opened ∙ yes)));
    }
