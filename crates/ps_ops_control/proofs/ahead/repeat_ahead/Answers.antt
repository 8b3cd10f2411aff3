-- One turn less, or the end.
use Rattle.std.proofs.Common.{◌-◌, [], arith, sym}
use Rattle.std.proofs.lemmas.Bool.Decides.{nat_tests}
use Rattle.ps_language.specs.declared.operators.Operator.TheVariants.{Repeat as RepeatOperator}
use Rattle.ps_ops_control.specs.declared.frames.Frame.TheVariants.{Repeat}
use Rattle.ps_ops_control.proofs.Entering.{some_frame, one_fits, room_kept}
use Rattle.ps_ops_control.proofs.Loops.{repeat_is, repeat_held, repeat_ends}
use Rattle.ps_ops_control.proofs.Turning.{turns_entered}
use Rattle.ps_ops_control.proofs.ahead.repeat_ahead.Goals as goal

pub returns-then-count-eq0-clause-turns : goal.returns-then-count-eq0-clause-turns
returns-then-count-eq0-clause-turns c = λ h size ready.
    rw (c.leave.ensures)
    (repeat_ends h size _ _ ready c.args.body c.args.count
    (omega (arith, nat_tests, c.if-count-eq0.true)) (sym c.requires.top))

pub returns-clause-turns : goal.returns-clause-turns
returns-clause-turns c =
    let operands = c.args.operands.now in
    let frames = c.args.frames.now in
    let body = c.args.body in
    let count = c.args.count in
    let top = sym c.requires.top in
    λ h size ready.
    rw (c.set_count.ensures)
    (turns_entered RepeatOperator h size operands frames ready
    (some_frame frames (Repeat count body) top) [] (Repeat (count - 1) body) body
    (repeat_held h size operands frames ready body count (count - 1) top)
    (repeat_is h size operands frames ready body count
    (omega (arith, nat_tests, c.if-count-eq0.false)) top)
    (c.may_enter.ensures.operands c.if-not-may_enter.false)
    (c.may_enter.ensures.body c.if-not-may_enter.false)
    (one_fits frames (c.may_enter.ensures.frames c.if-not-may_enter.false)))

pub returns-clause-room : goal.returns-clause-room
returns-clause-room c =
    rw (c.set_count.ensures)
    (room_kept c.args.frames.now (c.may_enter.ensures.frames c.if-not-may_enter.false))
