use Rattle.std.proofs.Common.{◌≡◌, take}
use Rattle.ps_core_machine.proofs.lists.copy_pairs.Given as goal

abbrev pub invariant-loop-item : goal.invariant-loop-item
invariant-loop-item l = l.copies.items ≡ take l.item-index l.list
