use Rattle.std.proofs.Common.{◌+◌, get_or, sym, subst, ◌∙◌, arith}
use Rattle.ps_mem.specs.Heap.{Heap, zero_word}
use Rattle.ps_mem.specs.Marks.{IsMarked}
use Rattle.ps_mem.proofs.MarkLemmas.{headed, marked-wider, marked-next, marked-all, get_at}
use Rattle.ps_mem.specs.Cells.{AreCellsOf}
use Rattle.ps_mem.proofs.marked.Marked.mark_words.Goals as goal

pub overflow_cast-index : goal.overflow_cast-index
overflow_cast-index g c =
    let h = g.M.Memory.heap c.args.self.now.memory in
    let header = c.header-header.result in
    let (o, at, kind, fields, birth) = headed h c.args.address c.requires.stands header
    c.header-header.ensures.answer in
    let place = c.requires.place in
    let below = c.loop-index-test.true in
    record { fits = omega (arith, fields, place, below) }

pub overflow_add-place : goal.overflow_add-place
overflow_add-place g c =
    let h = g.M.Memory.heap c.args.self.now.memory in
    let header = c.header-header.result in
    let (o, at, kind, fields, birth) = headed h c.args.address c.requires.stands header
    c.header-header.ensures.answer in
    let place = c.requires.place in
    let below = c.loop-index-test.true in
    record { fits = omega (arith, fields, place, below) }

pub loop-index-preserved : goal.loop-index-preserved
loop-index-preserved g c =
    let h = g.M.Memory.heap c.args.self.now.memory in
    let (heap, grants, widens, marked) = c.loop-index.invariant in
    let now = c.mark_word.new.self.marks.items.items in
    let items = c.args.items.now in
    let i = c.loop-index.index in
    let wider = marked-wider h c.loop-index.self.marks.items.items now c.args.address c.args.place
    items i c.mark_word.ensures.widens marked in
    let next = subst (λ (k : Heap). IsMarked k now c.args.address (c.args.place + i)
    (get_or items i zero_word)) heap c.mark_word.ensures.marked in (
      c.mark_word.ensures.heap ∙ heap,
      c.mark_word.ensures.grants ∙ grants,
      (λ name birth e. c.mark_word.ensures.widens name birth (widens name birth e)),
      marked-next h now c.args.address c.args.place items i (get_or items i zero_word) wider
          (get_at items i zero_word c.loop-index-test.true) next,
    )

pub returns-clause-marked : goal.returns-clause-marked
returns-clause-marked g c =
    let h = g.M.Memory.heap c.args.self.now.memory in
    let (heap, grants, widens, marked) = c.loop-index.invariant in
    marked-all h c.loop-index.self.marks.items.items c.args.address c.args.place c.args.items.now
    c.loop-index.index c.loop-index-test.false marked

pub invariant_of-self-clause-tell : goal.invariant_of-self-clause-tell
invariant_of-self-clause-tell g c =
    let s = c.args.self.now in
    subst (λ (h : Heap). AreCellsOf h s.cells.pair s.cells.items.items)
    (sym c.header-header.ensures.heap) s.tell
