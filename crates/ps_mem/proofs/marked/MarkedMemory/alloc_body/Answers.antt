use Rattle.std.proofs.Common.{sym, subst}
use Rattle.ps_mem.specs.Heap.{Heap, birth_at}
use Rattle.ps_mem.specs.Cells.{AreCellsOf}
use Rattle.ps_mem.specs.Marks.{Covers}
use Rattle.ps_mem.proofs.CellLemmas.{cells-made_body}
use Rattle.ps_mem.proofs.MarkLemmas.{Covers-made_body}
use Rattle.ps_mem.proofs.marked.MarkedMemory.alloc_body.Goals as goal

pub invariant_of-self : goal.invariant_of-self
invariant_of-self g c =
    let s = c.args.self.now in
    let h = g.M.Memory.heap s.memory in
    let marks = s.marks.items.items in
    record {
      covers = subst (λ (k : Heap). Covers k marks) (sym c.alloc_body.ensures.heap)
          (Covers-made_body h c.alloc_body.result (birth_at h c.args.dictionary) c.args.fields marks
          s.covers);
      tell = subst (λ (k : Heap). AreCellsOf k s.cells.pair s.cells.items.items)
          (sym c.alloc_body.ensures.heap)
          (cells-made_body h s.cells.pair s.cells.items.items s.tell c.alloc_body.result
          (birth_at h c.args.dictionary) c.args.fields c.alloc_body.ensures.free);
    }
