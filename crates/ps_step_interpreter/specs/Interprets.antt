-- A step of what is lent, by how far its context is (PLRM2, 3.5, 3.10).
use Rattle.std.specs.Prelude.{Option, Some, None}
use Rattle.ps_language.specs.Effect.{Around, Scene}
use Rattle.ps_language.specs.Machines.{turn_as}
use Rattle.ps_language.specs.StepValues.{Turn}
use Rattle.ps_language.specs.Value.{Store}
use Rattle.ps_language.specs.World.{Status, running, unwinding as unwinds}
use Rattle.ps_ops_control.specs.declared.frames.Cause.{Cause}
use Rattle.ps_ops_control.specs.Turns.{cause_of}
use Rattle.ps_ops_state.specs.Acts.{Asked}
use Rattle.ps_ops_state.specs.Lent.{Lent, scene_of, around_of}

-- a context runs, or is unwinding for a cause
abbrev pub status_in : (unwinding : Option Cause) → Status
status_in None = running
status_in (Some cause) = unwinds (cause_of cause)

-- its own turn
abbrev pub own_turn : (unwinding : Option Cause) → Lent → Store → Turn
own_turn unwinding l s =
    turn_as (around_of l) (status_in unwinding) (scene_of l s).frames (scene_of l s)

-- what is asked for beside, by what is shown alone
abbrev pub asks_in : (asks : Status → Around → Scene → Asked) → (unwinding : Option Cause) → Lent
    → Store → Asked
asks_in asks unwinding l s = asks (status_in unwinding) (around_of l) (scene_of l s)
