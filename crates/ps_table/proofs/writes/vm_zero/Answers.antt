use Rattle.std.proofs.Common.{◌+◌, ℕ, sym, ap, ◌∙◌, arith}
use Rattle.ps_core_machine.specs.declared.events.Vm.{Vm}
use Rattle.ps_table.specs.Shown.{SeatState}
use Rattle.ps_table.proofs.Facts.{vm_facts}
use Rattle.ps_table.proofs.Made.{looked_on}
use Rattle.ps_table.proofs.writes.vm_zero.Goals as goal

pub returns-then-vm_look-ne0-clause-part : goal.returns-then-vm_look-ne0-clause-part
returns-then-vm_look-ne0-clause-part g c =
    let m = c.args.seat.now.me in
    let facts = vm_facts m.0.vm c.requires.runs in
    let low = facts.low_end in let base = facts.base_low in let is = c.requires.is.0 in
    let place : ℕ = c.args.end + 1 + c.args.making in
    ap (λ (x : SeatState). x.0.vm) c.vm_clear.ensures.does.did
    ∙ (ap (λ (x : SeatState). record x.0.vm { making = x.0.vm.making + 1 })
    c.vm_look.ensures.does.did
    ∙ (ap (λ (v : Vm). record v { making = v.making + 1 })
    (looked_on m.0.vm m.0.gc place c.vm_look.result (omega arith) c.if-vm_look-ne0.true)
    ∙ ap (λ (k : ℕ). record m.0.vm { making = k + 1 }) (sym c.requires.is.1)))
