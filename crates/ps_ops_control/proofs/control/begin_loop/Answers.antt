-- The loop's frame.
use Rattle.std.proofs.Common.{◌∙◌, sym}
use Rattle.ps_mem.specs.Shows.{IsValue}
use Rattle.ps_language.specs.Control.{loop_row}
use Rattle.ps_ops_operands.proofs.Held.{first_held}
use Rattle.ps_ops_control.proofs.Rows.{loop_begins}
use Rattle.ps_ops_control.proofs.control.begin_loop.Goals as goal

pub returns : goal.returns
returns c = record {
  controls = λ h size ready.
      c.begin.ensures.controls loop_row h size ready
      (c.in-Some-procedure_of.ensures.held h (first_held (IsValue h) _ ready.operands.values _ c.in-Some.ensures))
      (record { within = λ names store both. tt })
      (loop_begins h _ _ _ c.in-Some.ensures c.in-Some-procedure_of.ensures.part (sym c.is_executable.ensures
      ∙ c.if-not-is_executable.false));
  framed = c.begin.ensures.framed;
}
