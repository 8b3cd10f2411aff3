-- Steps by what their frames ask for beside.
use Rattle.std.proofs.Common.{◌≡◌, List, ◌∷◌, drop, Some, refl, sym, ap, ◌∙◌}
use Rattle.std.specs.Prelude.{Result}
use Rattle.ps_language.specs.Value.{Store}
use Rattle.ps_stacks.specs.Tops.{first_of}
use Rattle.ps_ops_operands.specs.declared.failure.NotMade.{NotMade as Reason}
use Rattle.ps_ops_operands.proofs.Operands.{first_split}
use Rattle.ps_ops_control.specs.declared.frames.Frame.{Frame}
use Rattle.ps_ops_state.specs.declared.lent.Attempt.{Attempt}
use Rattle.ps_ops_state.specs.Acts.{Asked}
use Rattle.ps_ops_state.specs.Lent.{Lent, scene_of, around_of}
use Rattle.ps_step_outcome.specs.declared.turned.Turned.{Turned}
use Rattle.ps_step_outcome.specs.Turns.{Turns, nothing_more}
use Rattle.ps_step_outcome.proofs.Composing.{turns_as}
use Rattle.ps_ops_control.specs.Frames.{frames_in}
use Rattle.ps_step_execute.specs.Values.{Asks}
use Rattle.ps_step_frames.specs.Steps.{running_turn, top_asks, frame_asks}

-- by these frames
abbrev pub framed_asks : Asks → Lent → List Frame → Store → Asked
framed_asks asks l frames s =
    top_asks asks (frames_in l.heap l.names frames) (around_of l) (scene_of l s)

-- by what the frame asks for
pub joined_asks : (asks : Asks) (of_frame : Lent → Store → Asked)
    (l new : Lent) (attempt : Attempt) (result : Result Turned Reason) (top frame : Frame) → top ≡ frame
    → first_of l.frames ≡ Some top
    → ((s : Store) → framed_asks asks l (frame ∷ drop 1 l.frames) s ≡ of_frame l s)
    → Turns of_frame running_turn attempt result l new
    → Turns (frame_asks asks) running_turn attempt result l new
joined_asks asks of_frame l new attempt result top frame same is asked turns =
    turns_as of_frame (frame_asks asks) running_turn running_turn attempt result l new
    (λ s shown. refl)
    (λ s shown. sym (ap (λ (fs : List Frame). framed_asks asks l fs s)
    (first_split l.frames frame (sym (is ∙ ap Some same))) ∙ asked s)) turns

-- by a frame that asks for nothing
pub joined : (asks : Asks) (l new : Lent) (attempt : Attempt)
    (result : Result Turned Reason) (top frame : Frame) → top ≡ frame
    → first_of l.frames ≡ Some top
    → ((s : Store) → framed_asks asks l (frame ∷ drop 1 l.frames) s ≡ nothing_more l s)
    → Turns nothing_more running_turn attempt result l new
    → Turns (frame_asks asks) running_turn attempt result l new
joined asks l new attempt result top frame same is none turns =
    joined_asks asks nothing_more l new attempt result top frame same is none turns
