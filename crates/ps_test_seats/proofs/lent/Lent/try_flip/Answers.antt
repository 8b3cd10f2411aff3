use Rattle.std.proofs.Common.{arith}
use Rattle.std.specs.Prelude.{is_ok}
use Rattle.ps_core_laws.specs.Memory.{heap_of}
use Rattle.ps_test_seats.proofs.Ready.{perhaps_ready}
use Rattle.ps_test_seats.proofs.lent.Lent.try_flip.Goals as goal

pub invariant_of-arrays : goal.invariant_of-arrays
invariant_of-arrays g c =
    let done = c.try_flip.ensures.flips in
    let words = c.arrays.inside.words.items in
    perhaps_ready (heap_of c.arrays.inside.memory.vm.seat.me.0.vm)
    (heap_of c.try_flip.new.memory.vm.seat.me.0.vm) words
    c.as_mut_slice.result.now c.try_flip.new.roots c.arrays.inside.words.len (omega arith)
    c.as_mut_slice.ensures.value c.arrays.invariant (is_ok c.try_flip.result) done.moved
    done.heap_stays done.roots_stay
