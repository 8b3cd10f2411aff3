-- Both seats joined, and apart again.
use Rattle.std.proofs.Common.{ap, ◌∙◌, arith, sym, subst}
use Rattle.std.specs.Prelude.{is_ok, take, drop, length, ◌++◌}
use Rattle.ps_core_machine.specs.Objects.{values_stand}
use Rattle.ps_mem.specs.Heap.{Heap}
use Rattle.ps_mem.specs.Shows.{AreValues, IsReady}
use Rattle.ps_core_laws.specs.Memory.{heap_of}
use Rattle.ps_core_laws.specs.Stores.{numbers}
use Rattle.ps_table.specs.Shown.{SeatState}
use Rattle.ps_gc.proofs.Spaces.{values_name}
use Rattle.ps_test_seats.proofs.Ready.{perhaps_ready}
use Rattle.ps_test_seats.proofs.sides.Sides.try_flip.Goals as goal

pub joined_try_flip-flip-requires-clause-stand : goal.joined_try_flip-flip-requires-clause-stand
joined_try_flip-flip-requires-clause-stand g c =
    let vm = c.arrays.inside.memory.vm.seat.me.0.vm in
    ap (λ (m : SeatState). values_stand m.0.vm.objects (numbers c.as_mut_slice.result.now))
    c.join.ensures.joined
    ∙ values_name vm c.as_mut_slice.result.now
    (subst (AreValues (heap_of vm)) (sym c.as_mut_slice.ensures.value) c.arrays.invariant.values)

pub invariant_of-arrays : goal.invariant_of-arrays
invariant_of-arrays g c =
    let words = c.arrays.inside.words.items in
    let done = c.joined_try_flip-flip.ensures.flips in
    let joined = ap (λ (m : SeatState). heap_of m.0.vm) c.join.ensures.joined in
    let parted = ap (λ (m : SeatState). heap_of m.0.vm) c.part.ensures.vm in
    let ready = subst (λ (h : Heap). IsReady h words) (sym joined) c.arrays.invariant in
    let renamed = c.joined_try_flip-flip.new.roots in
    let count = c.arrays.inside.words.len in
    subst (λ (h : Heap). IsReady h (take count (renamed ++ drop (length renamed) words)))
    (sym parted)
    (perhaps_ready (heap_of c.join.new.gc.me.0.vm)
    (heap_of c.joined_try_flip-flip.new.self.gc.seat.me.0.vm) words c.as_mut_slice.result.now
    renamed count (omega arith)
    c.as_mut_slice.ensures.value ready (is_ok c.joined_try_flip-flip.result) done.moved
    done.heap_stays done.roots_stay)
