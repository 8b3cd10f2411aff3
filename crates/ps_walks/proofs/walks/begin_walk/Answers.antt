use Rattle.std.proofs.Common.{sym, ap, ◌∙◌}
use Rattle.ps_mem.specs.Heap.{Heap, empty_heap}
use Rattle.ps_walks.proofs.walks.begin_walk.Goals as goal

pub start_world-requires : goal.start_world-requires
unfolding empty_heap
start_world-requires g c =
    let none = c.plain_with_marks-memory.ensures in
    record { heap = none ∙ ap empty_heap (sym (ap (λ (h : Heap). h.space) none)) }
