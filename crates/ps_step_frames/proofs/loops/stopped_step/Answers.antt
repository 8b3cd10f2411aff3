-- The boolean is pushed over the frames below, and the frame is put back where it is not made.
use Rattle.std.proofs.Common.{◌≡◌, List, ◌∷◌, drop, refl, sym, ap, ◌∙◌}
use Rattle.ps_ops_operands.proofs.Operands.{first_split}
use Rattle.ps_ops_control.specs.declared.frames.Frame.{Frame}
use Rattle.ps_ops_control.specs.declared.frames.Frame.TheVariants.{Stopped}
use Rattle.ps_ops_state.specs.Lent.{Lent, IsShown, lent_of}
use Rattle.ps_step_outcome.specs.Turns.{nothing_more}
use Rattle.ps_step_outcome.proofs.Composing.{restacked_good, restacked_shown, composes}
use Rattle.ps_step_frames.specs.Steps.{running_turn, truth_turn}
use Rattle.ps_step_frames.proofs.Framing.{below_good, unmade_over}
use Rattle.ps_step_frames.proofs.Settling.{stopped_is}
use Rattle.ps_step_frames.proofs.loops.stopped_step.Goals as goal
use Rattle.std.proofs.Common.{false}

pub push_truth-requires : goal.push_truth-requires
push_truth-requires g c = record {
  good =
      let l : Lent = lent_of g.M.Memory.heap g.M.Memory.grants c.args.context.now c.args.runtime.now in
      rw c.drop_top.ensures.frames
      (restacked_good l l.operands (drop 1 l.frames) (below_good l c.requires.good) c.requires.good);
}

pub returns-in-Ok : goal.returns-in-Ok
returns-in-Ok g c =
    let l : Lent = lent_of g.M.Memory.heap g.M.Memory.grants c.args.context.now c.args.runtime.now in
    composes l l.operands (drop 1 l.frames) nothing_more nothing_more running_turn
    (truth_turn false) c.args.attempt IsShown
    (restacked_shown l l.operands (drop 1 l.frames) (below_good l c.requires.good))
    (stopped_is l (drop 1 l.frames) (first_split _ _ (sym c.requires.top))) (λ s shown. refl)
    c.in-Ok.turned _ (rw (c.drop_top.ensures.frames, c.in-Ok.is) at c.push_truth.ensures)

pub returns-in-Err : goal.returns-in-Err
returns-in-Err g c =
    let l : Lent = lent_of g.M.Memory.heap g.M.Memory.grants c.args.context.now c.args.runtime.now in
    let top : l.frames ≡ Stopped ∷ drop 1 l.frames = first_split _ _ (sym c.requires.top) in
    let turns = rw (c.drop_top.ensures.frames, c.in-Err.is) at c.push_truth.ensures in
    rw (c.push_frame.ensures ∙ (ap (λ (fs : List Frame). Stopped ∷ fs) turns.framed ∙ sym top))
    (unmade_over l (drop 1 l.frames) nothing_more nothing_more running_turn (truth_turn false)
    c.args.attempt IsShown
    (restacked_shown l l.operands (drop 1 l.frames) (below_good l c.requires.good)) (stopped_is l (drop 1 l.frames) top)
    (λ s shown. refl) c.requires.good c.in-Err.reason _ turns)
