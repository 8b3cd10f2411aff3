-- What a cell tells, and the word that it tells of.
use Rattle.ps_mem.specs.Cells.{AreCellsOf}
use Rattle.ps_mem.specs.Heap.{Heap}
use Rattle.std.proofs.Common.{sym, subst}
use Rattle.ps_mem.proofs.marked.MarkedMemory.known.Goals as goal

pub load_at-requires : goal.load_at-requires
load_at-requires g c =
    let tells = c.args.self.now.tell c.args.name c.in-Some.cell c.in-Some.ensures.kept
    c.in-Some.ensures.known in
    record { from = tells.from; place = tells.within }

pub returns-in-Some-clause-answer : goal.returns-in-Some-clause-answer
returns-in-Some-clause-answer g c =
    record {
      pair = c.args.self.now.cells.pair;
      cell = c.in-Some.cell;
      above = c.in-Some.ensures.upper;
      below = c.in-Some.ensures.lower;
      tells = c.args.self.now.tell c.args.name c.in-Some.cell c.in-Some.ensures.kept
          c.in-Some.ensures.known;
      stands = c.load_at.ensures.answer;
    }

pub invariant_of-self-clause-tell : goal.invariant_of-self-clause-tell
invariant_of-self-clause-tell g c =
    let s = c.args.self.now in
    subst (λ (h : Heap). AreCellsOf h s.cells.pair s.cells.items.items)
    (sym c.load_at.ensures.heap) s.tell
