use Rattle.std.proofs.Common.{sym, subst, ◌≡◌, ◌∙◌, ap, arith}
use Rattle.ps_mem.specs.Heap.{Heap, stored}
use Rattle.ps_mem.specs.Cells.{AreCellsOf}
use Rattle.ps_mem.specs.Marks.{Covers}
use Rattle.ps_mem.proofs.CellLemmas.{cells-settled}
use Rattle.ps_mem.proofs.MarkLemmas.{has_field, Covers-stored}
use Rattle.ps_mem.proofs.marked.MarkedMemory.store.Goals as goal

pub mark_stored-requires-clause-stands : goal.mark_stored-requires-clause-stands
mark_stored-requires-clause-stands g c =
    let some = c.requires.some in
    let place = c.requires.place in
    has_field (g.M.Memory.heap c.args.self.now.memory) c.args.address c.args.place
    (omega (arith, some, place))

pub invariant_of-self : goal.invariant_of-self
invariant_of-self g c =
    let s = c.mark_stored.new.self in
    let h = g.M.Memory.heap c.args.self.now.memory in
    let marks = s.marks.items.items in
    let covers : Covers h marks = subst (λ (k : Heap). Covers k marks) c.mark_stored.ensures.heap s.covers in
    let now : g.M.Memory.heap c.store.new.self ≡ stored h c.args.address c.args.place c.args.items.now =
    c.store.ensures.heap
    ∙ ap (λ (k : Heap). stored k c.args.address c.args.place c.args.items.now) c.mark_stored.ensures.heap in
    let tell : AreCellsOf h s.cells.pair s.cells.items.items =
    subst (λ (k : Heap). AreCellsOf k s.cells.pair s.cells.items.items) c.mark_stored.ensures.heap s.tell in
    record {
      covers = subst (λ (k : Heap). Covers k marks) (sym now)
          (Covers-stored h c.args.address c.args.place c.args.items.now c.requires.some c.requires.place
          marks covers c.mark_stored.ensures.marked);
      tell = subst (λ (k : Heap). AreCellsOf k c.settle.new.self.pair c.settle.new.self.items.items)
          (sym now)
          (cells-settled h s.cells.pair c.settle.new.self.pair s.cells.items.items
          c.settle.new.self.items.items c.args.address c.args.place c.args.items.now tell
          c.settle.ensures.pair c.settle.ensures.kept c.requires.place);
    }
