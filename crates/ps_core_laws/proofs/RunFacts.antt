-- The state that a run makes has small numbers.
use Rattle.std.proofs.Common.{◌≡◌, ◌++◌, ◌∷◌, [], ℕ, List, subst}
use Rattle.std.specs.Prelude.{reverse}
use Rattle.std.proofs.lemmas.List.{reverse-append}
use Rattle.ps_core_machine.specs.declared.events.Event.{Event}
use Rattle.ps_core_machine.specs.Bounds.{Bounded, CanStep}
use Rattle.ps_core_machine.specs.Conditions.{Permitted}
use Rattle.ps_core_laws.specs.Runs.{IsRun, IsSpace, run}
use Rattle.ps_core_machine.specs.Steps.{State}
use Rattle.ps_core_laws.proofs.Keeping.{Good}
use Rattle.ps_core_laws.proofs.Kept.{good}
use Rattle.ps_core_laws.proofs.Spaced.{SpacedOf, spaced}
use Rattle.ps_core_laws.proofs.Sizes.{bounded, can_step}

module _ (space : ℕ) (events : List Event) (m : State)
    (is : IsSpace space × IsRun space events × (run space events ≡ m)) where
  kept : Good space m
  kept = subst (Good space) is.2 (good space is.0 events is.1)

  pub bounded_run : Bounded m
  bounded_run = bounded space is.0 m kept (subst SpacedOf is.2 (spaced space is.0 events is.1))

  pub can_run : (e : Event) → Permitted m e → CanStep m e
  can_run e p = can_step space is.0 m kept e p

pub reverse_snoc : {X : Type 0} (xs : List X) (x : X) → reverse (xs ++ x ∷ []) ≡ x ∷ reverse xs
reverse_snoc xs x = reverse-append xs (x ∷ [])
