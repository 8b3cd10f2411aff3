-- Without its frame, or over it.
use Rattle.std.proofs.Common.{subst}
use Rattle.ps_ops_state.specs.Lent.{Lent, lent_of}
use Rattle.ps_ops_state.specs.Attempts.{ordinary}
use Rattle.ps_step_frames.specs.Steps.{above, frame_asks, running_turn}
use Rattle.ps_step_interpreter.proofs.Running.{run_none}
use Rattle.ps_step_outcome.specs.Turns.{Turns}
use Rattle.ps_step.proofs.Ahead.{turned_above}
use Rattle.ps_step.proofs.Behind.{step_above, undone_good, undone_turned}
use Rattle.ps_step.proofs.procedures.do_known.Goals as goal

pub returns-in-Done : goal.returns-in-Done
returns-in-Done g c =
    let l : Lent = lent_of g.M.Memory.heap g.M.Memory.grants c.args.context.now c.args.runtime.now in (
      c.element_under.ensures.frames,
      step_above g.O.Operate.asks c.args.slot c.args.rest l _ c.requires.good
          (rw c.in-Done.is at c.element_under.ensures.does),
    )

pub pushed_turn-requires-clause-good : goal.pushed_turn-requires-clause-good
pushed_turn-requires-clause-good g c =
    let l : Lent = lent_of g.M.Memory.heap g.M.Memory.grants c.args.context.now c.args.runtime.now in
    undone_good l (lent_of g.M.Memory.heap g.M.Memory.grants c.element_under.new.context c.element_under.new.runtime) c.args.rest
    (rw c.in-Fails.is at c.element_under.ensures.does) c.element_under.ensures.frames
    c.requires.good

pub returns-in-Fails : goal.returns-in-Fails
returns-in-Fails g c =
    let l : Lent = lent_of g.M.Memory.heap g.M.Memory.grants c.args.context.now c.args.runtime.now in
    let after : Lent = lent_of g.M.Memory.heap g.M.Memory.grants c.element_under.new.context c.element_under.new.runtime in
    undone_turned l after c.args.rest (rw c.in-Fails.is at c.element_under.ensures.does)
    c.element_under.ensures.frames c.requires.good g.O.Operate.asks c.args.slot
    c.pushed_turn.result _ c.pushed_turn.ensures

pub returns-in-Left : goal.returns-in-Left
returns-in-Left g c =
    let asks = g.O.Operate.asks in
    let l : Lent = lent_of g.M.Memory.heap g.M.Memory.grants c.args.context.now c.args.runtime.now in
    let turn = c.pushed_turn-in-Left.result in
    let new : Lent = lent_of g.M.Memory.heap g.M.Memory.grants c.pushed_turn-in-Left.new.context c.pushed_turn-in-Left.new.runtime in
    turned_above asks (above c.args.rest l) l c.args.rest 0
    (run_none (above c.args.rest l) c.requires.good) c.args.slot turn new
    (subst (λ (m : Lent). Turns (frame_asks asks) running_turn (ordinary c.args.slot) turn
    (above c.args.rest m) new) (rw c.in-Left.is at c.element_under.ensures.does)
    c.pushed_turn-in-Left.ensures)
