use Rattle.std.proofs.Common.{ap, sym, ◌∙◌}
use Rattle.ps_mem.specs.Heap.{Heap, empty_heap}
use Rattle.ps_test_seats.proofs.timings.hold_the_same.Goals as goal

pub new-others-requires : goal.new-others-requires
unfolding empty_heap
new-others-requires g c =
    c.new-memory.ensures ∙ sym (ap (λ (h : Heap). empty_heap h.space) c.new-memory.ensures)
