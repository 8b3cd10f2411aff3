-- The lock is freed over the frames below, and the frame is put back where the step is not made.
use Rattle.std.proofs.Common.{◌≡◌, List, ◌∷◌, drop, sym, ap, ◌∙◌}
use Rattle.ps_ops_operands.proofs.Operands.{first_split}
use Rattle.ps_ops_control.specs.declared.frames.Frame.{Frame}
use Rattle.ps_ops_control.specs.declared.frames.Frame.TheVariants.{Monitor}
use Rattle.ps_ops_state.specs.Lent.{Lent, IsShown, lent_of}
use Rattle.ps_step_outcome.proofs.Composing.{restacked_good, restacked_shown, composes}
use Rattle.ps_step_frames.specs.Steps.{unwinding_turn, releasing_turn, lock_asks, unwinding_asks}
use Rattle.ps_step_frames.proofs.Framing.{below_good, unmade_over}
use Rattle.ps_step_frames.proofs.Freeing.{monitor_held}
use Rattle.ps_step_frames.proofs.Releasing.{release_is, release_asks}
use Rattle.ps_step_frames.proofs.releases.unwind_monitor.Goals as goal

pub break_released-requires-clause-good : goal.break_released-requires-clause-good
break_released-requires-clause-good g c =
    let l : Lent = lent_of g.M.Memory.heap g.M.Memory.grants c.args.context.now c.args.runtime.now in
    rw c.drop_top.ensures.frames
    (restacked_good l l.operands (drop 1 l.frames) (below_good l c.requires.good) c.requires.good)

pub break_released-requires-clause-known : goal.break_released-requires-clause-known
break_released-requires-clause-known g c =
    let l : Lent = lent_of g.M.Memory.heap g.M.Memory.grants c.args.context.now c.args.runtime.now in
    monitor_held l c.requires.good c.args.lock (first_split _ _ (sym c.requires.top)) c.args.attempt

pub returns-in-Ok : goal.returns-in-Ok
returns-in-Ok g c =
    let l : Lent = lent_of g.M.Memory.heap g.M.Memory.grants c.args.context.now c.args.runtime.now in
    let top : l.frames ≡ Monitor c.args.lock ∷ drop 1 l.frames =
    first_split _ _ (sym c.requires.top) in
    composes l l.operands (drop 1 l.frames) unwinding_asks lock_asks (unwinding_turn c.args.cause)
    (releasing_turn c.args.cause c.args.lock) c.args.attempt IsShown
    (restacked_shown l l.operands (drop 1 l.frames) (below_good l c.requires.good))
    (λ s shown. release_is l c.args.lock (drop 1 l.frames) top c.args.cause s)
    (λ s shown. release_asks l c.args.lock (drop 1 l.frames) top s) c.in-Ok.turned _
    (rw (c.drop_top.ensures.frames, c.in-Ok.is) at c.break_released.ensures)

pub returns-in-Err : goal.returns-in-Err
returns-in-Err g c =
    let l : Lent = lent_of g.M.Memory.heap g.M.Memory.grants c.args.context.now c.args.runtime.now in
    let top : l.frames ≡ Monitor c.args.lock ∷ drop 1 l.frames =
    first_split _ _ (sym c.requires.top) in
    let turns = rw (c.drop_top.ensures.frames, c.in-Err.is) at c.break_released.ensures in
    rw (c.push_frame.ensures
    ∙ (ap (λ (fs : List Frame). Monitor c.args.lock ∷ fs) turns.framed ∙ sym top))
    (unmade_over l (drop 1 l.frames) unwinding_asks lock_asks (unwinding_turn c.args.cause)
    (releasing_turn c.args.cause c.args.lock) c.args.attempt IsShown
    (restacked_shown l l.operands (drop 1 l.frames) (below_good l c.requires.good))
    (λ s shown. release_is l c.args.lock (drop 1 l.frames) top c.args.cause s)
    (λ s shown. release_asks l c.args.lock (drop 1 l.frames) top s) c.requires.good
    c.in-Err.reason _ turns)
