-- What was moved is covered still, and what stands no more is forgotten.
use Rattle.std.proofs.Common.{sym, subst, ◌∙◌}
use Rattle.ps_mem.specs.Cells.{AreCellsOf}
use Rattle.ps_mem.specs.Heap.{Heap}
use Rattle.ps_mem.proofs.CellLemmas.{cells-none}
use Rattle.ps_core_laws.proofs.Marks.{Covers-either}
use Rattle.ps_core_laws.proofs.marked.PastCollectsMarked.whole_cycle.Goals as goal

pub invariant_of-memory : goal.invariant_of-memory
invariant_of-memory g c =
    let s = c.args.memory.now in
    record {
      covers = Covers-either (g.M.Memory.heap s.memory)
          (g.M.Memory.heap c.whole_cycle-made.new.memory) s.marks.items.items s.covers c.whole_cycle-made.result
          (λ e. let k = c.whole_cycle-made.ensures.exact e in (k.collected.forward, k.collected.moves))
          c.whole_cycle-made.ensures.heap;
      tell = cells-none (g.M.Memory.heap c.whole_cycle-made.new.memory) c.forget.new.self.pair
          c.forget.new.self.items.items c.forget.ensures.items;
    }

pub invariant_of-memory-else-made : goal.invariant_of-memory-else-made
invariant_of-memory-else-made g c =
    let s = c.args.memory.now in
    record {
      covers = Covers-either (g.M.Memory.heap s.memory)
          (g.M.Memory.heap c.whole_cycle-made.new.memory) s.marks.items.items s.covers c.whole_cycle-made.result
          (λ e. let k = c.whole_cycle-made.ensures.exact e in (k.collected.forward, k.collected.moves))
          c.whole_cycle-made.ensures.heap;
      tell = subst (λ (h : Heap). AreCellsOf h s.cells.pair s.cells.items.items)
          (sym (c.whole_cycle-made.ensures.heap c.if-made.false)) s.tell;
    }
