use Rattle.std.proofs.Common.{◌≡◌, ◌+◌, ◌-◌, length, sym, subst, ap, ◌∙◌, arith}
use Rattle.std.specs.Prelude.{slice_get, slice_range}
use Rattle.ps_mem.specs.Heap.{Heap, fields_at}
use Rattle.ps_mem.specs.Marks.{AreMarked, IsMarked}
use Rattle.ps_mem.proofs.MarkLemmas.{headed, marked-wider, marked-next, marked-all, marked-within, length-range, range_at}
use Rattle.ps_mem.specs.Cells.{AreCellsOf}
use Rattle.ps_mem.proofs.marked.Marked.mark_copied.Goals as goal

pub returns-then-from-to-2-clause-marked : goal.returns-then-from-to-2-clause-marked
returns-then-from-to-2-clause-marked g c =
    let s = c.args.self.now in
    let h = g.M.Memory.heap s.memory in
    let a = c.args in
    subst (λ from. AreMarked h s.marks.items.items a.to.address a.to.place
    (slice_range (fields_at h from) a.from.place (a.from.place + a.count))) (sym c.if-from-to.true)
    (marked-within h s.marks.items.items s.covers a.to.address a.from.place a.to.place a.count
    c.if-from-to-2.true)

pub overflow_add-to : goal.overflow_add-to
overflow_add-to g c =
    let h = g.M.Memory.heap c.args.self.now.memory in
    let header = c.header-header.result in
    let (o, at, kind, fields, birth) = headed h c.args.to.address c.requires.stands header
    c.header-header.ensures.answer in
    let target = c.requires.target in
    let below = c.loop-index-test.true in
    record { fits = omega (arith, fields, target, below) }

pub loop-index-preserved : goal.loop-index-preserved
loop-index-preserved g c =
    let h = g.M.Memory.heap c.args.self.now.memory in
    let a = c.args in
    let (heap, grants, widens, marked) = c.loop-index.invariant in
    let now = c.mark_word.new.self.marks.items.items in
    let items = slice_range (fields_at h a.from.address) a.from.place (a.from.place + a.count) in
    let i = c.loop-index.index in
    let wider = marked-wider h c.loop-index.self.marks.items.items now a.to.address a.to.place
    items i c.mark_word.ensures.widens marked in
    let word = c.load_at-word.result in
    let same : g.M.Memory.heap c.load_at-word.new.self ≡ h = c.load_at-word.ensures.heap ∙ heap in
    let next = subst (λ (k : Heap). IsMarked k now a.to.address (a.to.place + i) word) same
    c.mark_word.ensures.marked in
    let first = a.from.address + a.from.place in
    let there = range_at (fields_at h a.from.address) a.from.place a.count i word
    c.loop-index-test.true
    (let at : first + i - a.from.address ≡ a.from.place + i = omega arith in
    ap (slice_get (fields_at h a.from.address)) (sym at)
    ∙ (ap (λ (k : Heap). slice_get (fields_at k a.from.address) (first + i - a.from.address))
    (sym heap)
    ∙ c.load_at-word.ensures.answer)) in (
      c.mark_word.ensures.heap ∙ same,
      c.mark_word.ensures.grants ∙ (c.load_at-word.ensures.grants ∙ grants),
      (λ name birth e. c.mark_word.ensures.widens name birth (widens name birth e)),
      marked-next h now a.to.address a.to.place items i word wider there next,
    )

pub returns-clause-marked : goal.returns-clause-marked
returns-clause-marked g c =
    let h = g.M.Memory.heap c.args.self.now.memory in
    let a = c.args in
    let (heap, grants, widens, marked) = c.loop-index.invariant in
    let items = slice_range (fields_at h a.from.address) a.from.place (a.from.place + a.count) in
    let long : length items ≡ a.count = length-range (fields_at h a.from.address) a.from.place
    a.count c.requires.source in
    let over = c.loop-index-test.false in
    marked-all h c.loop-index.self.marks.items.items a.to.address a.to.place items
    c.loop-index.index (omega (arith, long, over)) marked

pub invariant_of-self-clause-tell : goal.invariant_of-self-clause-tell
invariant_of-self-clause-tell g c =
    let s = c.args.self.now in
    subst (λ (h : Heap). AreCellsOf h s.cells.pair s.cells.items.items)
    (sym c.header-header.ensures.heap) s.tell

pub invariant_of-self-in-loop-index-clause-tell : goal.invariant_of-self-in-loop-index-clause-tell
invariant_of-self-in-loop-index-clause-tell g c =
    let s = c.loop-index.self in
    subst (λ (h : Heap). AreCellsOf h s.cells.pair s.cells.items.items)
    (sym c.load_at-word.ensures.heap) s.tell
