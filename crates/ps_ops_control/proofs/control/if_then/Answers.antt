-- The procedure is entered where the condition is true.
use Rattle.std.proofs.Common.{◌∙◌, refl, sym}
use Rattle.ps_mem.specs.Shows.{IsValue}
use Rattle.ps_language.specs.Control.{if_row}
use Rattle.ps_ops_operands.proofs.Held.{first_of_two_held}
use Rattle.ps_ops_control.proofs.Rows.{if_enters}
use Rattle.ps_ops_control.proofs.control.if_then.Goals as goal

pub returns-then-truth : goal.returns-then-truth
returns-then-truth c = record {
  controls = λ h size ready.
      c.enter_with.ensures.controls if_row h size ready
      (c.in-Some-procedure_of.ensures.held h
      (first_of_two_held (IsValue h) _ ready.operands.values _ _ c.in-Some.ensures))
      (if_enters h _ _ _ _ c.in-Some.ensures c.in-Some-procedure_of.ensures.part (sym c.is_executable.ensures
      ∙ c.if-not-is_executable.false)
      (λ births names. rw (c.in-Some-boolean_of.ensures births names, c.if-truth.true) refl));
  framed = c.enter_with.ensures.framed;
}
