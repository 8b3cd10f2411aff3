use Rattle.std.proofs.Common.{arith}
use Rattle.ps_core_laws.specs.Memory.{heap_of}
use Rattle.ps_test_seats.proofs.Ready.{moved_ready}
use Rattle.ps_test_seats.proofs.sides.Sides.end.Goals as goal

pub invariant_of-arrays : goal.invariant_of-arrays
invariant_of-arrays g c =
    moved_ready (heap_of c.arrays.inside.memory.vm.seat.me.0.vm)
    (heap_of c.end_cycle.new.vm.seat.me.0.vm) c.arrays.inside.words.items
    c.as_mut_slice.result.now c.end_cycle.new.roots c.arrays.inside.words.len (omega arith)
    c.as_mut_slice.ensures.value c.arrays.invariant c.end_cycle.ensures.moved
