-- One of the two is entered.
use Rattle.std.proofs.Common.{◌∙◌, refl, sym}
use Rattle.ps_mem.specs.Shows.{IsValue}
use Rattle.ps_language.specs.Control.{ifelse_row}
use Rattle.ps_ops_operands.proofs.Held.{first_of_three_held}
use Rattle.ps_ops_control.proofs.Rows.{ifelse_first, ifelse_second, second_of_three_held}
use Rattle.ps_ops_control.proofs.control.if_then_else.Goals as goal

pub returns-then-truth : goal.returns-then-truth
returns-then-truth c = record {
  controls = λ h size ready.
      c.enter_with.ensures.controls ifelse_row h size ready
      (c.in-Some-procedure_of-2.ensures.held h
      (second_of_three_held (IsValue h) _ ready.operands.values _ _ _ c.in-Some.ensures))
      (ifelse_first h _ _ _ _ _ _ c.in-Some.ensures c.in-Some-procedure_of.ensures.part
      c.in-Some-procedure_of-2.ensures.part (sym c.are_executable.ensures ∙ c.if-not-are_executable.false)
      (λ births names. rw (c.in-Some-boolean_of.ensures births names, c.if-truth.true) refl));
  framed = c.enter_with.ensures.framed;
}

pub returns : goal.returns
returns c = record {
  controls = λ h size ready.
      c.enter_with-2.ensures.controls ifelse_row h size ready
      (c.in-Some-procedure_of.ensures.held h
      (first_of_three_held (IsValue h) _ ready.operands.values _ _ _ c.in-Some.ensures))
      (ifelse_second h _ _ _ _ _ _ c.in-Some.ensures c.in-Some-procedure_of.ensures.part
      c.in-Some-procedure_of-2.ensures.part (sym c.are_executable.ensures ∙ c.if-not-are_executable.false)
      (λ births names. rw (c.in-Some-boolean_of.ensures births names, c.if-truth.false) refl));
  framed = c.enter_with-2.ensures.framed;
}
