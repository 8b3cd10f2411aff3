-- When many ordinary steps of a context by itself went as the definitions say (PLRM2, 3.5).
use Rattle.std.specs.Prelude.{◌≢◌, ℕ, Option, Some, None, Result}
use Rattle.std.specs.Prelude.{[]}
use Rattle.ps_language.specs.Effect.{Around, Scene}
use Rattle.ps_language.specs.World.{Status}
use Rattle.ps_ops_operands.specs.declared.failure.NotMade.{NotMade as Reason}
use Rattle.ps_ops_state.specs.Acts.{Asked}
use Rattle.ps_ops_state.specs.Lent.{Lent}
use Rattle.ps_ops_state.specs.Attempts.{ordinary}
use Rattle.ps_step_outcome.specs.declared.turned.Turned.{Turned}
use Rattle.ps_step_outcome.specs.Turns.{Turns}
use Rattle.ps_step_interpreter.specs.Interprets.{asks_in, own_turn}
use Rattle.ps_step_interpreter.specs.OwnSteps.{HasRun}

-- so many own steps were made, and the turn of the frame behind them came to this
pub record TurnsBehind (asks : Status → Around → Scene → Asked) (slot made : ℕ)
    (result : Result Turned Reason) (old new : Lent) : Type 0 where
  pub mid : Lent
  pub makes : HasRun made old mid
  pub framed : mid.frames ≢ []
  pub turns : Turns (asks_in asks None) (own_turn None) (ordinary slot) result mid new

-- where no turn behind them is told, that is all
abbrev pub Runs : (asks : Status → Around → Scene → Asked) → (slot made : ℕ)
    → Option (Result Turned Reason) → (old new : Lent) → Type 0
Runs asks slot made None old new = HasRun made old new
Runs asks slot made (Some result) old new = TurnsBehind asks slot made result old new
