-- The next place.
use Rattle.std.proofs.Common.{◌+◌, sym}
use Rattle.ps_language.specs.declared.operators.Operator.TheVariants.{Forall as ForallOperator}
use Rattle.ps_ops_control.specs.declared.frames.Frame.TheVariants.{Forall}
use Rattle.ps_ops_control.specs.Turns.{words_of}
use Rattle.ps_ops_control.proofs.Entering.{some_frame, one_fits, room_kept}
use Rattle.ps_ops_control.proofs.Loops.{forall_is, forall_held}
use Rattle.ps_ops_control.proofs.Turning.{turns_entered}
use Rattle.ps_ops_control.proofs.ahead.forall_ahead.Goals as goal

pub returns-clause-turns : goal.returns-clause-turns
returns-clause-turns c =
    let operands = c.args.operands.now in
    let frames = c.args.frames.now in
    let over = c.args.state.over in
    let at = c.args.state.at in
    let body = c.args.state.body in
    let top = sym c.requires.top in
    λ h size ready is.
    rw (c.push.ensures, c.set_place.ensures)
    (turns_entered ForallOperator h size operands frames ready
    (some_frame frames (Forall over at body) top) (words_of c.args.pushed)
    (Forall over (at + 1) body) body
    (forall_held h size operands frames ready over at body top c.args.pushed is)
    (forall_is h size operands frames ready over at body top c.args.pushed is)
    (rw c.count.ensures at (c.may_enter.ensures.operands c.if-not-may_enter.false))
    (c.may_enter.ensures.body c.if-not-may_enter.false)
    (one_fits frames (c.may_enter.ensures.frames c.if-not-may_enter.false)))

pub returns-clause-room : goal.returns-clause-room
returns-clause-room c =
    rw (c.set_place.ensures)
    (room_kept c.args.frames.now (c.may_enter.ensures.frames c.if-not-may_enter.false))
