use Rattle.std.proofs.Common.{◌≡◌, ap, sym, ◌∙◌, subst}
use Rattle.ps_core_machine.specs.Bounds.{Bounded, CanStep}
use Rattle.ps_core_machine.specs.Conditions.{Permitted}
use Rattle.ps_core_laws.specs.Runs.{History, run}
use Rattle.ps_core_machine.specs.Steps.{State}
use Rattle.ps_core_laws.proofs.RunFacts.{bounded_run, can_run}
use Rattle.ps_core.proofs.runs.Core.after.Goals as goal

pub step-requires-clause-bounded : goal.step-requires-clause-bounded
step-requires-clause-bounded c = subst Bounded (sym c.in_ok-next.ensures) (bounded_run _ _ _ c.self.invariant)

pub step-requires-clause-can : goal.step-requires-clause-can
step-requires-clause-can c =
    let is : run c.args.self.now.space c.args.self.now.events ≡ c.self.inside.machine =
    ap (λ (z : History). run z.space z.events) (sym c.self.view_is) ∙ c.self.invariant.2 in
    subst (λ (m : State). CanStep m c.args.event.now) (sym c.in_ok-next.ensures)
    (can_run _ _ _ c.self.invariant c.args.event.now
    (subst (λ (m : State). Permitted m c.args.event.now) is c.requires))
