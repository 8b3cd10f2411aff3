-- What a step by an operator asks for that the language does not say.
use Rattle.ps_language.specs.declared.operators.Operator.{Operator}
use Rattle.ps_language.specs.Acts.{effect_of}
use Rattle.ps_language.specs.Effect.{Around, Scene, Effect, unwinds, raises, calls}
use Rattle.ps_ops_state.specs.Acts.{Asked, nothing_asked}
use Rattle.ps_ops.specs.Operators.{row_now, asked_of}

-- an error comes before all that an operator asks for; nor do an unwinding and what is left to the
-- world ask for any of it
abbrev pub asked_by : Effect → Scene → (Scene → Asked) → Asked
asked_by (raises error) scene asks = nothing_asked scene
asked_by (unwinds cause left) scene asks = nothing_asked scene
asked_by (calls deed) scene asks = nothing_asked scene
asked_by effect scene asks = asks scene

abbrev pub operator_asks : Operator → Around → Scene → Asked
operator_asks operator around scene =
    asked_by (effect_of (row_now operator) around scene) scene (asked_of operator)
