-- The frame stays, and the procedure is entered.
use Rattle.std.proofs.Common.{[], List, ◌∷◌, Ok, sym, subst}
use Rattle.ps_language.specs.declared.operators.Operator.TheVariants.{Loop as LoopOperator}
use Rattle.ps_ops_operands.proofs.Operands.{first_split}
use Rattle.ps_ops_control.specs.declared.frames.Frame.{Frame}
use Rattle.ps_ops_control.specs.declared.frames.Frame.TheVariants.{Loop, Procedure}
use Rattle.ps_ops_control.specs.Controls.{stacks}
use Rattle.ps_ops_control.specs.Turns.{Turns}
use Rattle.ps_ops_control.proofs.Entering.{some_frame, one_fits}
use Rattle.ps_ops_control.proofs.Loops.{loop_is, loop_held}
use Rattle.ps_ops_control.proofs.Turning.{turns_entered}
use Rattle.ps_ops_control.proofs.ahead.loop_ahead.Goals as goal

pub returns-clause-turns : goal.returns-clause-turns
returns-clause-turns c =
    let operands = c.args.operands.now in
    let frames = c.args.frames.now in
    let body = c.args.body in
    let top = sym c.requires.top in
    λ h size ready.
    subst (λ (fs : List Frame). Turns LoopOperator (Ok tt) h size (stacks operands frames)
    (stacks operands (Procedure body ∷ fs))) (sym (first_split frames (Loop body) top))
    (turns_entered LoopOperator h size operands frames ready (some_frame frames (Loop body) top) []
    (Loop body) body (loop_held h size operands frames ready body top)
    (loop_is h size operands frames ready body top)
    (c.may_enter.ensures.operands c.if-not-may_enter.false)
    (c.may_enter.ensures.body c.if-not-may_enter.false)
    (one_fits frames (c.may_enter.ensures.frames c.if-not-may_enter.false)))
