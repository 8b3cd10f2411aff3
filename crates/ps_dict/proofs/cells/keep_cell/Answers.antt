-- The first of two dictionaries that has the name is found.
use Rattle.std.proofs.Common.{sym, ap, ◌∙◌, subst}
use Rattle.ps_word.specs.Format.{content_in}
use Rattle.ps_mem.specs.Heap.{Heap}
use Rattle.ps_mem.specs.Cells.{IsOpen}
use Rattle.ps_dict.proofs.Telling.{name-content, tells-upper, tells-lower}
use Rattle.ps_dict.proofs.cells.keep_cell.Goals as goal

pub keep-requires : goal.keep-requires
keep-requires g c =
    let key = c.args.key in
    let cell = c.in-Some-value_cell.cell in
    record {
      tells = tells-upper (g.M.Memory.heap c.args.memory.now) (g.M.Memory.heap c.opened.new.memory)
          (g.M.Memory.heap c.opened-2.new.memory) (g.M.Memory.heap c.value_cell.new.memory)
          c.in-Some-opened.upper c.in-Some-opened-2.lower c.in-Some.name key cell
          c.opened.ensures.heap c.opened-2.ensures.heap c.value_cell.ensures.heap
          (name-content (content_in key.0) c.in-Some.name c.in-Some.ensures)
          c.in-Some-opened.ensures.open c.in-Some-opened-2.ensures.open
          c.in-Some-value_cell.ensures.first c.in-Some-value_cell.ensures.from
          c.in-Some-value_cell.ensures.within;
    }

pub keep-requires-in-Some-value_cell-2 : goal.keep-requires-in-Some-value_cell-2
keep-requires-in-Some-value_cell-2 g c =
    let key = c.args.key in
    let cell = c.in-Some-value_cell-2.cell in
    record {
      tells = tells-lower (g.M.Memory.heap c.args.memory.now) (g.M.Memory.heap c.opened.new.memory)
          (g.M.Memory.heap c.opened-2.new.memory) (g.M.Memory.heap c.value_cell.new.memory)
          (g.M.Memory.heap c.value_cell-in-None.new.memory)
          c.in-Some-opened.upper c.in-Some-opened-2.lower c.in-Some.name key cell
          c.opened.ensures.heap c.opened-2.ensures.heap c.value_cell.ensures.heap
          c.value_cell-in-None.ensures.heap
          (name-content (content_in key.0) c.in-Some.name c.in-Some.ensures)
          c.in-Some-opened.ensures.open c.in-Some-opened-2.ensures.open c.in-None.ensures.first
          c.in-Some-value_cell-2.ensures.first c.in-Some-value_cell-2.ensures.from
          c.in-Some-value_cell-2.ensures.within;
    }
