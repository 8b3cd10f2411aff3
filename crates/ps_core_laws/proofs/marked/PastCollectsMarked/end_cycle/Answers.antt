-- What was moved is covered still, and what stands no more is forgotten.
use Rattle.std.proofs.Common.{sym, subst, ◌∙◌}
use Rattle.ps_mem.specs.Cells.{AreCellsOf}
use Rattle.ps_mem.specs.Heap.{Heap}
use Rattle.ps_mem.proofs.CellLemmas.{cells-none}
use Rattle.ps_core_laws.proofs.Marks.{Covers-either}
use Rattle.ps_core_laws.proofs.marked.PastCollectsMarked.end_cycle.Goals as goal

pub invariant_of-memory : goal.invariant_of-memory
invariant_of-memory g c =
    let s = c.args.memory.now in
    record {
      covers = Covers-either (g.M.Memory.heap s.memory)
          (g.M.Memory.heap c.end_cycle-ended.new.memory) s.marks.items.items s.covers c.end_cycle-ended.result
          (λ e. let k = c.end_cycle-ended.ensures.moved e in (k.forward, k.moves))
          c.end_cycle-ended.ensures.heap;
      tell = cells-none (g.M.Memory.heap c.end_cycle-ended.new.memory) c.forget.new.self.pair
          c.forget.new.self.items.items c.forget.ensures.items;
    }

pub invariant_of-memory-else-ended : goal.invariant_of-memory-else-ended
invariant_of-memory-else-ended g c =
    let s = c.args.memory.now in
    record {
      covers = Covers-either (g.M.Memory.heap s.memory)
          (g.M.Memory.heap c.end_cycle-ended.new.memory) s.marks.items.items s.covers c.end_cycle-ended.result
          (λ e. let k = c.end_cycle-ended.ensures.moved e in (k.forward, k.moves))
          c.end_cycle-ended.ensures.heap;
      tell = subst (λ (h : Heap). AreCellsOf h s.cells.pair s.cells.items.items)
          (sym (c.end_cycle-ended.ensures.heap c.if-ended.false)) s.tell;
    }
