-- The procedure's frame.
use Rattle.std.proofs.Common.{◌∙◌, sym, arith}
use Rattle.ps_mem.specs.Shows.{IsValue}
use Rattle.ps_language.specs.Control.{bind_row}
use Rattle.ps_ops_operands.proofs.Held.{first_held}
use Rattle.ps_ops_control.proofs.Rows.{bind_begins}
use Rattle.ps_ops_control.proofs.control.begin_bind.Goals as goal

pub returns-then-is_unlimited : goal.returns-then-is_unlimited
returns-then-is_unlimited c = record {
  controls = λ h size ready.
      c.begin.ensures.controls bind_row h size ready (
        c.in-Some-procedure_of.ensures.held h (first_held (IsValue h) _ ready.operands.values _ c.in-Some.ensures),
        omega (arith),
        omega (arith),
        omega (arith),
      )
      (record { within = λ names store both. tt })
      (bind_begins h _ _ _ c.in-Some.ensures c.in-Some-procedure_of.ensures.part (sym c.is_unlimited.ensures
      ∙ c.if-is_unlimited.true));
  framed = c.begin.ensures.framed;
}
