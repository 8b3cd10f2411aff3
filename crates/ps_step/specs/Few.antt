-- What a step of a context asks for is few records where what each operator asks for is.
use Rattle.std.specs.Prelude.{Bool, true, false, List, ◌∷◌}
use Rattle.ps_language.specs.Control.{with_frames}
use Rattle.ps_language.specs.Scan.{scan}
use Rattle.ps_language.specs.StepFrames.{source_bytes}
use Rattle.ps_language.specs.Token.{Scan, found}
use Rattle.ps_language.specs.World.{Frame, Source, from_program, from_string, text_frame, running}
use Rattle.ps_language.specs.World.{unwinding}
use Rattle.ps_ops_state.specs.Acts.{Asked, IsFew, AreFew}
use Rattle.ps_step_execute.specs.Values.{Asks}
use Rattle.ps_step_execute.proofs.Few.{none_few}
use Rattle.ps_step_frames.proofs.Few.{top_few, unwound_few}
use Rattle.ps_step_tokens.proofs.Few.{doing_few}
use Rattle.ps_step.specs.Texts.{takes_list, with_list, source_asks, taking_asks}
use Rattle.ps_step.specs.Steps.{running_asks, own_asks}

-- a list asks for no record
listed_few : (takes : Bool) (asked : Asked) → IsFew asked → IsFew (with_list takes asked)
listed_few true asked few = few
listed_few false asked few = few

source_few : (source : Source) (outcome : Scan) (asked : Asked) → IsFew asked
    → IsFew (source_asks source outcome asked)
source_few from_program outcome asked few = listed_few (takes_list outcome) asked few
source_few (from_string part) outcome asked few = few

module _ (asks : Asks) (few : AreFew asks) where
  taking_few : (source : Source) (below : List Frame) → AreFew (taking_asks asks source below)
  taking_few source below (found token end) around scene =
      doing_few asks few token around (with_frames (text_frame source end ∷ below) scene)
  taking_few source below outcome around scene = none_few

  running_few : AreFew (running_asks asks)
  running_few (text_frame source at ∷ below) around scene =
      source_few source (scan (source_bytes around.program scene.store source) at) _
      (taking_few source below (scan (source_bytes around.program scene.store source) at) around
      scene)
  running_few frames around scene = top_few asks few frames around scene

  pub own_few : AreFew (own_asks asks)
  own_few running around scene = running_few scene.frames around scene
  own_few (unwinding cause) around scene = unwound_few scene.frames
  own_few status around scene = none_few
