use Rattle.std.proofs.Common.{sym, subst}
use Rattle.ps_mem.specs.Heap.{Heap}
use Rattle.ps_mem.specs.Cells.{AreCellsOf}
use Rattle.ps_mem.specs.Marks.{Covers, Widens}
use Rattle.ps_mem.proofs.MarkLemmas.{Covers-widened, widens-new}
use Rattle.ps_mem.proofs.marked.Marked.mark_key.Goals as goal

pub invariant_of-self : goal.invariant_of-self
invariant_of-self g c =
    let s = c.args.self.now in
    let h = g.M.Memory.heap s.memory in
    let old = s.marks.items.items in
    let now = c.widen.new.self.items.items in
    let widens : Widens old now = subst (Widens old) (sym c.widen.ensures)
    (widens-new old c.args.name c.header-header.result.birth) in
    record {
      covers = subst (λ (k : Heap). Covers k now) (sym c.header-header.ensures.heap)
          (Covers-widened h old now s.covers widens);
      tell = subst (λ (k : Heap). AreCellsOf k s.cells.pair s.cells.items.items)
          (sym c.header-header.ensures.heap) s.tell;
    }

pub invariant_of-self-else-eq-clause-tell : goal.invariant_of-self-else-eq-clause-tell
invariant_of-self-else-eq-clause-tell g c =
    let s = c.args.self.now in
    subst (λ (h : Heap). AreCellsOf h s.cells.pair s.cells.items.items)
    (sym c.header-header.ensures.heap) s.tell
