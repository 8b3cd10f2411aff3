-- Operators and elements that take no memory (PLRM2, 3.5, 8 'Operators').
use Rattle.std.specs.Prelude.{◌≡◌, ◌⊎◌, true, false, List, [], ◌∷◌}
use Rattle.ps_language.specs.declared.operators.Operator.{Operator}
use Rattle.ps_language.specs.Acts.{acts}
use Rattle.ps_language.specs.Effect.{Around, Scene, Effect, makes, raises}
use Rattle.ps_language.specs.Scan.{scan}
use Rattle.ps_language.specs.StepValues.{command_of, is_procedure}
use Rattle.ps_language.specs.Value.{Value}
use Rattle.ps_ops_state.specs.Acts.{no_rooms}
use Rattle.ps_step_execute.specs.Values.{Asks}

-- other operands and nothing else, or an error
abbrev pub IsOnOperands : Scene → Effect → Type 0
IsOnOperands scene (makes after output) =
    (after ≡ record scene { operands = after.operands }) × (output ≡ [])
IsOnOperands scene (raises error) = Unit {0}
IsOnOperands scene effect = ⊥

module _ (asks : Asks) where
  -- in every scene an operator changes operands alone or raises an error, and reads into no list
  pub record IsFrugal (operator : Operator) : Type 0 where
    pub effect : (around : Around) (scene : Scene)
        → IsOnOperands scene (acts scan operator around scene)
    pub asked : (around : Around) (scene : Scene) → (asks operator around scene).scratch ≡ no_rooms

  -- each of these
  abbrev pub AreFrugal : List Operator → Type 0
  AreFrugal [] = Unit {0}
  AreFrugal (operator ∷ operators) = IsFrugal operator × AreFrugal operators

  -- a literal, a procedure, or such an operator
  abbrev pub IsFrugalElement : Value → Type 0
  IsFrugalElement value =
      (value.executable ≡ false) ⊎ ((is_procedure value ≡ true)
      ⊎ ((operator : Operator) × ((value ≡ command_of operator) × IsFrugal operator)))
