use Rattle.std.proofs.Common.{◌≡◌, ◌+◌, ◌-◌, ◌≤◌, true}
use Rattle.ps_core_laws.specs.Shown.{VmRuns}
use Rattle.ps_table.proofs.Made.{Cleared}
use Rattle.ps_table.proofs.writes.vm_object.Given as goal

-- so many words are cleared
abbrev pub invariant-loop-making : goal.invariant-loop-making
invariant-loop-making g l =
    (l.making ≤ l.fields + 1)
    × (g.W.Words.seats l.words l.seat × (g.W.Words.id l.words ≡ g.W.Words.id l.initial.words))
    × (l.seat.me.0.acts_vm ≡ true)
    × ∥ VmRuns l.seat.me.0.vm ∥₁
    × (l.seat.me.0.vm ≡ record l.initial.seat.me.0.vm { making = l.making })
    × Cleared l.initial.seat.me l.seat.me l.end l.making

abbrev pub decreases-loop-making : goal.decreases-loop-making
decreases-loop-making g l = l.fields + 1 - l.making
