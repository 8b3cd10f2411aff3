use Rattle.std.proofs.Common.{sym, refl, ap, ◌∙◌, subst}
use Rattle.ps_core_machine.specs.declared.events.Vm.{Vm}
use Rattle.ps_core_laws.specs.Shown.{VmRuns}
use Rattle.ps_table.proofs.Mirrored.{goes}
use Rattle.ps_table.proofs.collector.GcSeat.look.Goals as goal

pub returns-clause-sits : goal.returns-clause-sits
returns-clause-sits g c =
    let m = c.args.self.now.seat.me in
    let n = c.args.mirror.now in
    let s = c.requires.sits in
    let did = c.look.ensures.does.did in
    let part = ap (λ x. x.0.vm) did ∙ c.requires.stays m.0.gc c.look.result in
    goes _ _ m n c.look.new.seat.me n m.0.vm (ap (λ t. t.words) c.look.ensures.same.1) s
    (ap (λ x. x.0.acts_vm) did ∙ s.acts) (ap (λ x. x.1) did) part refl
    (subst (λ (x : Vm). ∥ VmRuns x ∥₁) (sym part) s.runs) s.mirrors

pub returns-clause-parts : goal.returns-clause-parts
returns-clause-parts g c = let did = c.look.ensures.does.did in (
  ap (λ x. x.0.vm) did ∙ c.requires.stays c.args.self.now.seat.me.0.gc c.look.result,
  ap (λ x. x.0.gc) did,
)
