use Rattle.std.proofs.Common.{◌≡◌, ◌∷◌, List, ap, sym, ◌∙◌, subst}
use Rattle.std.specs.Prelude.{reverse}
use Rattle.ps_core_machine.specs.declared.events.Event.{Event}
use Rattle.ps_core_machine.specs.Conditions.{Permitted}
use Rattle.ps_core_laws.specs.Runs.{History, IsRun, IsSpace, run}
use Rattle.ps_core_machine.specs.Steps.{State, happens}
use Rattle.ps_core_laws.proofs.RunFacts.{reverse_snoc}
use Rattle.ps_core.proofs.runs.Core.keep.Goals as goal

pub invariant_of-self-in-Ok : goal.invariant_of-self-in-Ok
invariant_of-self-in-Ok c =
    let was : State = run c.self.inside.space (reverse c.self.inside.events.items) in
    let is : run c.args.self.now.space c.args.self.now.events ≡ was =
    ap (λ (z : History). run z.space z.events) (sym c.self.view_is) in
    let may : Permitted was c.args.event = subst (λ (s : State). Permitted s c.args.event) is c.requires.may in
    let made : happens was c.args.event ≡ c.args.next =
    sym (c.requires.made ∙ ap (λ (s : State). happens s c.args.event) is) in
    let grown : reverse c.push.new.self.items ≡ c.args.event ∷ reverse c.self.inside.events.items =
    ap reverse c.in-Ok.ensures.items ∙ reverse_snoc c.self.inside.events.items c.args.event in
    subst (λ (l : List Event). IsSpace c.self.inside.space × IsRun c.self.inside.space l
    × (run c.self.inside.space l ≡ c.args.next)) (sym grown) (c.self.invariant.0, (c.self.invariant.1, may), made)
