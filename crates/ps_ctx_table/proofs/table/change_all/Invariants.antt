use Rattle.std.proofs.Common.{◌≡◌, ◌++◌, map, take, drop}
use Rattle.ps_ctx_table.proofs.table.change_all.Given as goal

abbrev pub invariant-loop-item : goal.invariant-loop-item
invariant-loop-item g l =
    l.items ≡ map (g.C.Change.changed l.change) (take l.item-index l.fn.items)
    ++ drop l.item-index l.fn.items
