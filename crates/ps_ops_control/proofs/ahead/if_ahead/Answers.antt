-- The procedure is entered where the condition is true.
use Rattle.std.proofs.Common.{refl}
use Rattle.ps_mem.specs.Shows.{IsValue}
use Rattle.ps_language.specs.Control.{if_row}
use Rattle.ps_ops_operands.proofs.Held.{first_of_two_held}
use Rattle.ps_ops_control.proofs.Controlling.{controls_taken}
use Rattle.ps_ops_control.proofs.Entering.{enters_ahead}
use Rattle.ps_ops_control.proofs.Reading.{entered}
use Rattle.ps_ops_control.proofs.Rows.{if_enters, if_passes}
use Rattle.ps_ops_control.proofs.ahead.if_ahead.Goals as goal

pub returns-then-truth-clause-controls : goal.returns-then-truth-clause-controls
returns-then-truth-clause-controls c = λ h size frames room ready.
    let body = entered _ _ c.in-Some-as_enterable.ensures in
    rw (c.discard.ensures)
    (enters_ahead if_row h size _ frames ready 2 _
    (if_enters h _ _ _ _ c.in-Some.ensures body.procedure body.may
    (λ births names. rw (c.in-Some-boolean_of.ensures births names, c.if-truth.true) refl))
    (body.held h (first_of_two_held (IsValue h) _ ready.operands.values _ _ c.in-Some.ensures)) _
    c.enter_ahead.ensures room)

pub returns-else-truth-clause-controls : goal.returns-else-truth-clause-controls
returns-else-truth-clause-controls c = λ h size frames room ready.
    let body = entered _ _ c.in-Some-as_enterable.ensures in
    rw (c.discard.ensures)
    (controls_taken if_row h size _ frames ready 2
    (if_passes h _ _ _ _ c.in-Some.ensures body.procedure body.may
    (λ births names. rw (c.in-Some-boolean_of.ensures births names, c.if-truth.false) refl)))
