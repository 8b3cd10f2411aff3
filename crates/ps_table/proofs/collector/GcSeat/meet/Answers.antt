use Rattle.std.proofs.Common.{sym, ap, ◌∙◌}
use Rattle.ps_core_machine.specs.declared.events.Vm.{Vm}
use Rattle.ps_table.proofs.Facts.{words}
use Rattle.ps_table.proofs.collector.GcSeat.meet.Goals as goal

pub returns-clause-cycle : goal.returns-clause-cycle
returns-clause-cycle g c =
    let v = c.args.self.now.seat.me.0.vm in
    let f = c.look.ensures.looks.finds in
    sym f.found ∙ ((words v.space f.size f.events f.is_run).cycle
    ∙ ap (λ (x : Vm). x.cycle) f.vm_is)
