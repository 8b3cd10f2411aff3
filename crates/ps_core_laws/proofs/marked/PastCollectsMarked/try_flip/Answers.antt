-- What was moved is covered still, and what stands no more is forgotten.
use Rattle.std.proofs.Common.{sym, subst, ◌∙◌}
use Rattle.std.specs.Prelude.{is_ok}
use Rattle.ps_mem.specs.Cells.{AreCellsOf}
use Rattle.ps_mem.specs.Heap.{Heap}
use Rattle.ps_mem.proofs.CellLemmas.{cells-none}
use Rattle.ps_core_laws.proofs.Marks.{Covers-either}
use Rattle.ps_core_laws.proofs.marked.PastCollectsMarked.try_flip.Goals as goal

pub invariant_of-memory : goal.invariant_of-memory
invariant_of-memory g c =
    let s = c.args.memory.now in
    let flips = c.try_flip-flipped.ensures.flips in
    record {
      covers = Covers-either (g.M.Memory.heap s.memory)
          (g.M.Memory.heap c.try_flip-flipped.new.memory) s.marks.items.items s.covers (is_ok c.try_flip-flipped.result)
          (λ e. let k = flips.moved e in (k.forward, k.moves))
          flips.heap_stays;
      tell = cells-none (g.M.Memory.heap c.try_flip-flipped.new.memory) c.forget.new.self.pair
          c.forget.new.self.items.items c.forget.ensures.items;
    }

pub invariant_of-memory-else-is_ok : goal.invariant_of-memory-else-is_ok
invariant_of-memory-else-is_ok g c =
    let s = c.args.memory.now in
    let flips = c.try_flip-flipped.ensures.flips in
    record {
      covers = Covers-either (g.M.Memory.heap s.memory)
          (g.M.Memory.heap c.try_flip-flipped.new.memory) s.marks.items.items s.covers (is_ok c.try_flip-flipped.result)
          (λ e. let k = flips.moved e in (k.forward, k.moves))
          flips.heap_stays;
      tell = subst (λ (h : Heap). AreCellsOf h s.cells.pair s.cells.items.items)
          (sym (flips.heap_stays (sym c.is_ok.ensures.value ∙ c.if-is_ok.false))) s.tell;
    }
