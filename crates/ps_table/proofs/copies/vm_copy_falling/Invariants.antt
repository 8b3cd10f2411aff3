use Rattle.std.proofs.Common.{◌≡◌, ◌+◌, ◌≤◌, true, drop}
use Rattle.ps_core_machine.specs.Steps.{table_size}
use Rattle.ps_core_laws.specs.Shown.{VmRuns}
use Rattle.ps_core_laws.specs.Stores.{numbers, fields_stored_down}
use Rattle.ps_core_laws.specs.MemoryLaws.{words_copied}
use Rattle.ps_table.specs.Mirrored.{KeepsGc}
use Rattle.ps_table.proofs.copies.vm_copy_falling.Given as goal

-- all but the first words are copied, so many are left
abbrev pub invariant-loop-left : goal.invariant-loop-left
invariant-loop-left g l =
    (l.left ≤ l.count)
    × (g.W.Words.seats l.words l.seat × (g.W.Words.id l.words ≡ g.W.Words.id l.initial.words))
    × ((g.W.Words.id l.words).words ≡ table_size l.seat.me.0.vm.space)
    × (l.seat.me.0.acts_vm ≡ true)
    × (l.seat.me.1 ≡ l.initial.seat.me.1)
    × ∥ VmRuns l.seat.me.0.vm ∥₁
    × (l.seat.me.0.vm ≡ fields_stored_down l.initial.seat.me.0.vm l.to.address (l.to.place + l.left)
    (numbers (drop l.left (words_copied l.initial.seat.me.0.vm l.from.address l.from.place
    l.count))))
    × KeepsGc l.initial.seat.me.0 l.seat.me.0

abbrev pub decreases-loop-left : goal.decreases-loop-left
decreases-loop-left g l = l.left
