-- One more is kept.
use Rattle.ps_mem.proofs.CellLemmas.{cells-kept}
use Rattle.ps_mem.proofs.marked.MarkedMemory.keep.Goals as goal

pub invariant_of-self : goal.invariant_of-self
invariant_of-self g c =
    let s = c.args.self.now in
    record {
      covers = s.covers;
      tell = cells-kept (g.M.Memory.heap s.memory) s.cells.pair c.keep.new.self.pair c.args.pair
          s.cells.items.items c.keep.new.self.items.items c.args.name c.args.cell s.tell
          c.requires.tells c.keep.ensures;
    }
