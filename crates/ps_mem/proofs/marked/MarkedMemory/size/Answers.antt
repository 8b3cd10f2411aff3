-- The heap is the same.
use Rattle.std.proofs.Common.{sym, subst}
use Rattle.ps_mem.specs.Cells.{AreCellsOf}
use Rattle.ps_mem.specs.Heap.{Heap}
use Rattle.ps_mem.proofs.marked.MarkedMemory.size.Goals as goal

pub invariant_of-self-clause-tell : goal.invariant_of-self-clause-tell
invariant_of-self-clause-tell g c =
    let s = c.args.self.now in
    subst (λ (h : Heap). AreCellsOf h s.cells.pair s.cells.items.items)
    (sym c.size.ensures.heap) s.tell
