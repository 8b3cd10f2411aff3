-- The value is executed over the frames below, and its frame is put back where it is not made.
use Rattle.std.proofs.Common.{◌≡◌, List, [], ◌∷◌, drop, sym, ap, ◌∙◌}
use Rattle.ps_ops_operands.proofs.Operands.{first_split}
use Rattle.ps_ops_control.specs.declared.frames.Frame.{Frame}
use Rattle.ps_ops_control.specs.declared.frames.Frame.TheVariants.{Pending}
use Rattle.ps_ops_state.specs.Lent.{Lent, lent_of}
use Rattle.ps_step_outcome.specs.Turns.{IsShownWith}
use Rattle.ps_step_outcome.proofs.Composing.{restacked_good, composes}
use Rattle.ps_step_execute.specs.Values.{executed_turn, executed_asks}
use Rattle.ps_step_frames.specs.Steps.{running_turn, frame_asks}
use Rattle.ps_step_frames.proofs.Framing.{below_good, unmade_over}
use Rattle.ps_step_frames.proofs.Taking.{waiting_held, waiting_shown, waiting_is, waiting_asks}
use Rattle.ps_step_frames.proofs.elements.pending_turn.Goals as goal

pub execute-requires-clause-good : goal.execute-requires-clause-good
execute-requires-clause-good g c =
    let l : Lent = lent_of g.M.Memory.heap g.M.Memory.grants c.args.context.now c.args.runtime.now in
    rw c.drop_top.ensures.frames
    (restacked_good l l.operands (drop 1 l.frames) (below_good l c.requires.good) c.requires.good)

pub execute-requires-clause-word : goal.execute-requires-clause-word
execute-requires-clause-word g c =
    waiting_held _ c.args.word _ (first_split _ _ (sym c.requires.top)) c.requires.good

pub execute-requires-clause-command : goal.execute-requires-clause-command
execute-requires-clause-command g c =
    waiting_held _ c.args.word _ (first_split _ _ (sym c.requires.top)) c.requires.good

pub returns-in-Ok : goal.returns-in-Ok
returns-in-Ok g c =
    let l : Lent = lent_of g.M.Memory.heap g.M.Memory.grants c.args.context.now c.args.runtime.now in
    let word = c.args.word in
    let top : l.frames ≡ Pending word ∷ drop 1 l.frames = first_split _ _ (sym c.requires.top) in
    composes l l.operands (drop 1 l.frames) (frame_asks g.O.Operate.asks)
    (executed_asks g.O.Operate.asks word) running_turn (executed_turn word word) c.args.attempt
    (IsShownWith (word ∷ word ∷ []) []) (waiting_shown l word (drop 1 l.frames) top)
    (waiting_is l word (drop 1 l.frames) top)
    (waiting_asks l word (drop 1 l.frames) top g.O.Operate.asks) c.in-Ok.turned _
    (rw (c.drop_top.ensures.frames, c.in-Ok.is) at c.execute.ensures)

pub returns-in-Err : goal.returns-in-Err
returns-in-Err g c =
    let l : Lent = lent_of g.M.Memory.heap g.M.Memory.grants c.args.context.now c.args.runtime.now in
    let word = c.args.word in
    let top : l.frames ≡ Pending word ∷ drop 1 l.frames = first_split _ _ (sym c.requires.top) in
    let turns = rw (c.drop_top.ensures.frames, c.in-Err.is) at c.execute.ensures in
    rw (c.push_frame.ensures
    ∙ (ap (λ (fs : List Frame). Pending word ∷ fs) turns.framed ∙ sym top))
    (unmade_over l (drop 1 l.frames) (frame_asks g.O.Operate.asks)
    (executed_asks g.O.Operate.asks word) running_turn (executed_turn word word) c.args.attempt
    (IsShownWith (word ∷ word ∷ []) []) (waiting_shown l word (drop 1 l.frames) top)
    (waiting_is l word (drop 1 l.frames) top)
    (waiting_asks l word (drop 1 l.frames) top g.O.Operate.asks) c.requires.good c.in-Err.reason _
    turns)
