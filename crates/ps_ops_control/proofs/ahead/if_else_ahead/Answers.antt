-- One of the two is entered.
use Rattle.std.proofs.Common.{◌≡◌, true, ◌&&◌, refl}
use Rattle.ps_mem.specs.Shows.{IsValue}
use Rattle.ps_language.specs.Access.{is_executable}
use Rattle.ps_language.specs.Control.{ifelse_row}
use Rattle.ps_ops_operands.proofs.Held.{first_of_three_held}
use Rattle.ps_ops_control.proofs.Entering.{enters_ahead}
use Rattle.ps_ops_control.proofs.Reading.{entered}
use Rattle.ps_ops_control.proofs.Rows.{ifelse_first, ifelse_second, second_of_three_held}
use Rattle.ps_ops_control.proofs.ahead.if_else_ahead.Goals as goal

pub returns-then-truth-clause-controls : goal.returns-then-truth-clause-controls
returns-then-truth-clause-controls c = λ h size frames room ready.
    let other = entered _ _ c.in-Some-as_enterable.ensures in
    let body = entered _ _ c.in-Some-as_enterable-2.ensures in
    let may : (is_executable c.in-Some-as_enterable.other.access
    && is_executable c.in-Some-as_enterable-2.body.access) ≡ true = rw (other.may, body.may) refl in
    rw (c.discard.ensures)
    (enters_ahead ifelse_row h size _ frames ready 3 _
    (ifelse_first h _ _ _ _ _ _ c.in-Some.ensures other.procedure body.procedure may
    (λ births names. rw (c.in-Some-boolean_of.ensures births names, c.if-truth.true) refl))
    (body.held h
    (second_of_three_held (IsValue h) _ ready.operands.values _ _ _ c.in-Some.ensures)) _
    c.enter_ahead.ensures room)

pub returns-else-truth-clause-controls : goal.returns-else-truth-clause-controls
returns-else-truth-clause-controls c = λ h size frames room ready.
    let other = entered _ _ c.in-Some-as_enterable.ensures in
    let body = entered _ _ c.in-Some-as_enterable-2.ensures in
    let may : (is_executable c.in-Some-as_enterable.other.access
    && is_executable c.in-Some-as_enterable-2.body.access) ≡ true = rw (other.may, body.may) refl in
    rw (c.discard.ensures)
    (enters_ahead ifelse_row h size _ frames ready 3 _
    (ifelse_second h _ _ _ _ _ _ c.in-Some.ensures other.procedure body.procedure may
    (λ births names. rw (c.in-Some-boolean_of.ensures births names, c.if-truth.false) refl))
    (other.held h
    (first_of_three_held (IsValue h) _ ready.operands.values _ _ _ c.in-Some.ensures)) _
    c.enter_ahead-else-truth.ensures room)
