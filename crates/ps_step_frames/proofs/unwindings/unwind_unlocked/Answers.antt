-- The unwinding goes on over the frames below, and the frame is put back where it is not made.
use Rattle.std.proofs.Common.{◌≡◌, List, ◌∷◌, drop, refl, sym, ap, ◌∙◌}
use Rattle.ps_ops_operands.proofs.Operands.{first_split}
use Rattle.ps_ops_control.specs.declared.frames.Frame.{Frame}
use Rattle.ps_ops_control.specs.Turns.{ends_at_loop, ends_at_stopped}
use Rattle.ps_ops_state.specs.Lent.{Lent, IsShown, lent_of}
use Rattle.ps_step_outcome.specs.Turns.{nothing_more}
use Rattle.ps_step_outcome.proofs.Composing.{restacked_good, restacked_shown, composes}
use Rattle.ps_step_frames.specs.Steps.{unwinding_turn, gone_turn}
use Rattle.ps_step_frames.proofs.Framing.{below_good, unmade_over}
use Rattle.ps_step_frames.proofs.Going.{gone_is}
use Rattle.ps_step_frames.proofs.unwindings.unwind_unlocked.Goals as goal

pub after_frame-requires : goal.after_frame-requires
after_frame-requires g c = record {
  good =
      let l : Lent = lent_of g.M.Memory.heap g.M.Memory.grants c.args.context.now c.args.runtime.now in
      rw c.drop_top.ensures.frames
      (restacked_good l l.operands (drop 1 l.frames) (below_good l c.requires.good) c.requires.good);
}

pub returns-in-Ok : goal.returns-in-Ok
returns-in-Ok g c =
    let l : Lent = lent_of g.M.Memory.heap g.M.Memory.grants c.args.context.now c.args.runtime.now in
    composes l l.operands (drop 1 l.frames) nothing_more nothing_more (unwinding_turn c.args.cause)
    (gone_turn (ends_at_loop c.args.cause c.args.top) (ends_at_stopped c.args.cause c.args.top)
    c.args.cause) c.args.attempt IsShown
    (restacked_shown l l.operands (drop 1 l.frames) (below_good l c.requires.good))
    (gone_is l c.requires.good c.args.cause c.args.top (sym c.requires.top) c.requires.free)
    (λ s shown. refl) c.in-Ok.turned _
    (rw (c.drop_top.ensures.frames, c.in-Ok.is) at c.after_frame.ensures)

pub returns-in-Err : goal.returns-in-Err
returns-in-Err g c =
    let l : Lent = lent_of g.M.Memory.heap g.M.Memory.grants c.args.context.now c.args.runtime.now in
    let top : l.frames ≡ c.args.top ∷ drop 1 l.frames = first_split _ _ (sym c.requires.top) in
    let turns = rw (c.drop_top.ensures.frames, c.in-Err.is) at c.after_frame.ensures in
    rw (c.push_frame.ensures
    ∙ (ap (λ (fs : List Frame). c.args.top ∷ fs) turns.framed ∙ sym top))
    (unmade_over l (drop 1 l.frames) nothing_more nothing_more (unwinding_turn c.args.cause)
    (gone_turn (ends_at_loop c.args.cause c.args.top) (ends_at_stopped c.args.cause c.args.top)
    c.args.cause) c.args.attempt IsShown
    (restacked_shown l l.operands (drop 1 l.frames) (below_good l c.requires.good))
    (gone_is l c.requires.good c.args.cause c.args.top (sym c.requires.top) c.requires.free)
    (λ s shown. refl) c.requires.good c.in-Err.reason _ turns)
