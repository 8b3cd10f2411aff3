-- What a step by a frame asks for is few records where what each operator asks for is.
use Rattle.std.proofs.Common.{ℕ, ◌<◌, arith, Bool, true, false, List, ◌∷◌, drop}
use Rattle.std.specs.Prelude.{if◌then◌else◌}
use Rattle.ps_language.specs.Access.{part_elements}
use Rattle.ps_language.specs.Control.{with_frames}
use Rattle.ps_language.specs.Effect.{Scene}
use Rattle.ps_language.specs.StepFrames.{element_at, rest_frames}
use Rattle.ps_language.specs.StepValues.{looked_up}
use Rattle.ps_language.specs.Value.{Part}
use Rattle.ps_language.specs.World.{Frame, procedure_frame, pending_frame, monitor_frame, bind_frame}
use Rattle.ps_ops_operands.specs.Changes.{most_records}
use Rattle.ps_ops_state.specs.Acts.{IsFew, AreFew}
use Rattle.ps_step_execute.specs.Values.{Asks}
use Rattle.ps_step_execute.proofs.Few.{none_few, done_few}
use Rattle.ps_step_frames.specs.Binds.{replaces}
use Rattle.ps_step_frames.specs.Steps.{bound_asks, freeing_asked, top_asks, unwound_asks}

freeing_few : IsFew freeing_asked
freeing_few = omega arith

bound_few : (over : Part) (at : ℕ) (scene : Scene) → IsFew (bound_asks over at scene)
bound_few over at scene =
    by (replaces (λ name. looked_up name scene.dictionaries scene.store)
    (drop at (part_elements scene.store over)))
  where
    by : (b : Bool) → (if b then 1 else 0) < most_records
    by true = omega arith
    by false = none_few

pub top_few : (asks : Asks) → AreFew asks → AreFew (top_asks asks)
top_few asks few (procedure_frame rest ∷ below) around scene =
    done_few asks few (element_at scene.store rest 0) around
    (with_frames (rest_frames rest below) scene)
top_few asks few (pending_frame value ∷ below) around scene =
    done_few asks few value around (with_frames below scene)
top_few asks few (bind_frame over at depth ∷ below) around scene = bound_few over at scene
top_few asks few (monitor_frame lock ∷ below) around scene = freeing_few
top_few asks few frames around scene = none_few

pub unwound_few : (frames : List Frame) → IsFew (unwound_asks frames)
unwound_few (monitor_frame lock ∷ below) = freeing_few
unwound_few frames = none_few
