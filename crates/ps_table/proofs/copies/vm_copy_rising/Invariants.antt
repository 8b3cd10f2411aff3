use Rattle.std.proofs.Common.{◌≡◌, ◌-◌, ◌≤◌, true, take}
use Rattle.ps_core_machine.specs.Steps.{table_size}
use Rattle.ps_core_laws.specs.Shown.{VmRuns}
use Rattle.ps_core_laws.specs.Stores.{numbers, fields_stored}
use Rattle.ps_core_laws.specs.MemoryLaws.{words_copied}
use Rattle.ps_table.specs.Mirrored.{KeepsGc}
use Rattle.ps_table.proofs.copies.vm_copy_rising.Given as goal

-- the first words are copied, so many of them
abbrev pub invariant-loop-done : goal.invariant-loop-done
invariant-loop-done g l =
    (l.done ≤ l.count)
    × (g.W.Words.seats l.words l.seat × (g.W.Words.id l.words ≡ g.W.Words.id l.initial.words))
    × ((g.W.Words.id l.words).words ≡ table_size l.seat.me.0.vm.space)
    × (l.seat.me.0.acts_vm ≡ true)
    × (l.seat.me.1 ≡ l.initial.seat.me.1)
    × ∥ VmRuns l.seat.me.0.vm ∥₁
    × (l.seat.me.0.vm ≡ fields_stored l.initial.seat.me.0.vm l.to.address l.to.place
    (numbers (take l.done (words_copied l.initial.seat.me.0.vm l.from.address l.from.place
    l.count))))
    × KeepsGc l.initial.seat.me.0 l.seat.me.0

abbrev pub decreases-loop-done : goal.decreases-loop-done
decreases-loop-done g l = l.count - l.done
