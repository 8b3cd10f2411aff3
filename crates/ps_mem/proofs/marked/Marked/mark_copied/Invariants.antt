use Rattle.std.proofs.Common.{◌≡◌, ◌+◌}
use Rattle.std.specs.Prelude.{slice_range}
use Rattle.ps_mem.specs.Heap.{fields_at}
use Rattle.ps_mem.specs.Marks.{Widens}
use Rattle.ps_mem.proofs.MarkLemmas.{AreMarkedBelow}
use Rattle.ps_mem.proofs.marked.Marked.mark_copied.Given as goal

-- the words up to the index are marked
abbrev pub invariant-loop-index : goal.invariant-loop-index
invariant-loop-index g l =
    (g.M.Memory.heap l.self.memory ≡ g.M.Memory.heap l.fn.self.memory)
    × (g.M.Memory.grants l.self.memory ≡ g.M.Memory.grants l.fn.self.memory)
    × Widens l.fn.self.marks.items.items l.self.marks.items.items
    × AreMarkedBelow (g.M.Memory.heap l.fn.self.memory) l.self.marks.items.items l.fn.to.address
    l.fn.to.place (slice_range (fields_at (g.M.Memory.heap l.fn.self.memory) l.fn.from.address)
    l.fn.from.place (l.fn.from.place + l.fn.count)) l.index
