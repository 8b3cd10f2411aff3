use Rattle.std.proofs.Common.{sym, subst}
use Rattle.ps_mem.specs.Heap.{Heap}
use Rattle.ps_mem.specs.Cells.{AreCellsOf}
use Rattle.ps_mem.specs.Marks.{Covers}
use Rattle.ps_mem.proofs.CellLemmas.{cells-made}
use Rattle.ps_mem.proofs.MarkLemmas.{Covers-made}
use Rattle.ps_mem.proofs.marked.MarkedMemory.alloc.Goals as goal

pub invariant_of-self : goal.invariant_of-self
invariant_of-self g c =
    let s = c.args.self.now in
    let marks = s.marks.items.items in
    record {
      covers = subst (λ (h : Heap). Covers h marks) (sym c.alloc.ensures.heap)
          (Covers-made (g.M.Memory.heap s.memory) c.alloc.result c.args.kind c.args.fields marks s.covers);
      tell = subst (λ (h : Heap). AreCellsOf h s.cells.pair s.cells.items.items)
          (sym c.alloc.ensures.heap)
          (cells-made (g.M.Memory.heap s.memory) s.cells.pair s.cells.items.items s.tell
          c.alloc.result c.args.kind c.args.fields c.alloc.ensures.free);
    }
