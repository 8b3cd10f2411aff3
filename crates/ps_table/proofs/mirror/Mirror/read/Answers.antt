use Rattle.std.proofs.Common.{refl, ap, ◌∙◌}
use Rattle.ps_core_machine.specs.declared.events.Event.TheVariants.{VmLoad}
use Rattle.ps_table.proofs.Kept.{keeps_by}
use Rattle.ps_table.proofs.Mirrored.{goes_by}
use Rattle.ps_table.proofs.mirror.Mirror.read.Goals as goal

pub returns-clause-sits : goal.returns-clause-sits
returns-clause-sits g c =
    let m = c.args.seat.now.me in
    let s = c.requires.sits.1 in
    let does = c.vm_load.ensures.does in (
      c.vm_load.ensures.same.0,
      goes_by _ _ m c.args.self.now c.vm_load.new.seat.me c.args.self.now
          (VmLoad c.args.place c.vm_load.result) m.0.vm
          (ap (λ t. t.words) c.vm_load.ensures.same.1) s does.did does.runs
          (c.requires.stays m.0.gc c.vm_load.result) refl s.mirrors,
    )

pub returns-clause-gc : goal.returns-clause-gc
returns-clause-gc g c = keeps_by _ _ (VmLoad c.args.place c.vm_load.result)
    (ap (λ x. x.0) c.vm_load.ensures.does.did)

pub returns-clause-part : goal.returns-clause-part
returns-clause-part g c = ap (λ x. x.0.vm) c.vm_load.ensures.does.did
    ∙ c.requires.stays c.args.seat.now.me.0.gc c.vm_load.result
