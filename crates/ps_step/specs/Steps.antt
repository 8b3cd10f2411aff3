-- What a step of a context asks for that the language does not say (PLRM2, 3.4, 3.5, 3.10).
use Rattle.std.specs.Prelude.{List, ◌∷◌}
use Rattle.ps_language.specs.Effect.{Around, Scene}
use Rattle.ps_language.specs.World.{Status, running, unwinding, Frame, text_frame}
use Rattle.ps_ops_state.specs.Acts.{Asked}
use Rattle.ps_step_outcome.specs.Turns.{none_asked}
use Rattle.ps_step_execute.specs.Values.{Asks}
use Rattle.ps_step_frames.specs.Steps.{top_asks, unwound_asks}
use Rattle.ps_step.specs.Texts.{reading_asks}

module _ (asks : Asks) where
  -- of a running context
  abbrev pub running_asks : List Frame → Around → Scene → Asked
  running_asks (text_frame source at ∷ below) around scene =
      reading_asks asks source at below around scene
  running_asks frames around scene = top_asks asks frames around scene

  -- by the status
  abbrev pub own_asks : Status → Around → Scene → Asked
  own_asks running around scene = running_asks scene.frames around scene
  own_asks (unwinding cause) around scene = unwound_asks scene.frames
  own_asks status around scene = none_asked
