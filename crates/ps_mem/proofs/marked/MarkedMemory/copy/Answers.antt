use Rattle.std.proofs.Common.{sym, subst, ◌≡◌, ◌⊎◌, ℕ, [], ◌+◌, length, ◌∙◌, ap, arith}
use Rattle.std.specs.Prelude.{slice_range}
use Rattle.ps_mem.specs.Heap.{Heap, fields_at, stored}
use Rattle.ps_mem.specs.Cells.{AreCellsOf, Leaves}
use Rattle.ps_mem.specs.Marks.{Covers}
use Rattle.ps_mem.proofs.CellLemmas.{cells-settled}
use Rattle.ps_mem.proofs.MarkLemmas.{has_field, Covers-stored, length-range}
use Rattle.ps_mem.proofs.marked.MarkedMemory.copy.Goals as goal

pub mark_copied-requires-clause-stands : goal.mark_copied-requires-clause-stands
mark_copied-requires-clause-stands g c =
    let some = c.requires.some in
    let target = c.requires.target in
    has_field (g.M.Memory.heap c.args.self.now.memory) c.args.to.address c.args.to.place
    (omega (arith, some, target))

pub invariant_of-self : goal.invariant_of-self
invariant_of-self g c =
    let s = c.mark_copied.new.self in
    let h = g.M.Memory.heap c.args.self.now.memory in
    let a = c.args in
    let marks = s.marks.items.items in
    let covers : Covers h marks = subst (λ (k : Heap). Covers k marks) c.mark_copied.ensures.heap s.covers in
    let items = slice_range (fields_at h a.from.address) a.from.place (a.from.place + a.count) in
    let long : length items ≡ a.count = length-range (fields_at h a.from.address) a.from.place
    a.count c.requires.source in
    let some = c.requires.some in
    let target = c.requires.target in
    let now : g.M.Memory.heap c.copy.new.self ≡ stored h a.to.address a.to.place items =
    c.copy.ensures.heap
    ∙ ap (λ (k : Heap). stored k a.to.address a.to.place
    (slice_range (fields_at k a.from.address) a.from.place (a.from.place + a.count)))
    c.mark_copied.ensures.heap in
    let tell : AreCellsOf h s.cells.pair s.cells.items.items =
    subst (λ (k : Heap). AreCellsOf k s.cells.pair s.cells.items.items) c.mark_copied.ensures.heap s.tell in
    let kept : (c.settle.new.self.items.items ≡ [])
    ⊎ ((c.settle.new.self.items.items ≡ s.cells.items.items)
    × Leaves s.cells.pair a.to.address a.to.place (length items)) =
    subst (λ (n : ℕ). (c.settle.new.self.items.items ≡ [])
    ⊎ ((c.settle.new.self.items.items ≡ s.cells.items.items)
    × Leaves s.cells.pair a.to.address a.to.place n)) (sym long) c.settle.ensures.kept in
    record {
      covers = subst (λ (k : Heap). Covers k marks) (sym now)
          (Covers-stored h a.to.address a.to.place items (omega (arith, long, some))
          (omega (arith, long, target))
          marks covers c.mark_copied.ensures.marked);
      tell = subst (λ (k : Heap). AreCellsOf k c.settle.new.self.pair c.settle.new.self.items.items)
          (sym now)
          (cells-settled h s.cells.pair c.settle.new.self.pair s.cells.items.items
          c.settle.new.self.items.items a.to.address a.to.place items tell
          c.settle.ensures.pair kept (omega (arith, long, target)));
    }
