-- The heap is the same.
use Rattle.std.proofs.Common.{sym, subst}
use Rattle.ps_mem.specs.Cells.{AreCellsOf}
use Rattle.ps_mem.specs.Heap.{Heap}
use Rattle.ps_core_laws.proofs.marked.PastCollectsMarked.hand_over.Goals as goal

pub invariant_of-memory-clause-tell : goal.invariant_of-memory-clause-tell
invariant_of-memory-clause-tell g c =
    let s = c.args.memory.now in
    subst (λ (h : Heap). AreCellsOf h s.cells.pair s.cells.items.items)
    (sym c.hand_over.ensures.heap) s.tell
