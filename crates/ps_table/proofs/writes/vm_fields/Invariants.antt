use Rattle.std.proofs.Common.{◌≡◌, ◌+◌, true, drop}
use Rattle.ps_core_machine.specs.Steps.{table_size}
use Rattle.ps_core_laws.specs.Shown.{VmRuns}
use Rattle.ps_core_laws.specs.Stores.{numbers, MayStoreFields}
use Rattle.ps_table.specs.Events.{did_all, field_stores}
use Rattle.ps_table.proofs.writes.vm_fields.Given as goal

-- what is still to be done from here ends where all of it does
abbrev pub invariant-loop-word : goal.invariant-loop-word
invariant-loop-word g l =
    (l.at ≡ l.place + l.word-index)
    × (g.W.Words.seats l.words l.seat × (g.W.Words.id l.words ≡ g.W.Words.id l.initial.words))
    × ((g.W.Words.id l.words).words ≡ table_size l.seat.me.0.vm.space)
    × (l.seat.me.0.acts_vm ≡ true)
    × (l.seat.me.1 ≡ l.initial.seat.me.1)
    × ∥ VmRuns l.seat.me.0.vm ∥₁
    × MayStoreFields l.seat.me.0.vm l.address l.at (numbers (drop l.word-index l.items))
    × (did_all l.seat.me.0 (field_stores l.address l.at (numbers (drop l.word-index l.items)))
    ≡ did_all l.initial.seat.me.0 (field_stores l.address l.place (numbers l.items)))
