-- The loop's frame.
use Rattle.std.proofs.Common.{rules, w32, ◌∙◌, sym}
use Rattle.std.proofs.lemmas.Int.{to_z-of_z}
use mir.Val.{SFits}
use Rattle.ps_mem.specs.Shows.{IsValue}
use Rattle.ps_language.specs.Control.{repeat_row}
use Rattle.ps_ops_operands.proofs.Held.{first_of_two_held}
use Rattle.ps_ops_control.proofs.Rows.{repeat_begins}
use Rattle.ps_ops_control.proofs.control.begin_repeat.Goals as goal

pub returns : goal.returns
returns c =
    let fits : SFits w32 c.in-Some-integer_of.turns = search rules in
    let counted = simp to_z-of_z at c.in-Some-count_of.ensures.count in
    record {
      controls = λ h size ready.
          c.begin.ensures.controls repeat_row h size ready
          (c.in-Some-procedure_of.ensures.held h
          (first_of_two_held (IsValue h) _ ready.operands.values _ _ c.in-Some.ensures))
          (record { within = λ names store both. tt })
          (repeat_begins h _ _ _ _ _ _ c.in-Some.ensures c.in-Some-procedure_of.ensures.part
          c.in-Some-integer_of.ensures (sym c.is_executable.ensures ∙ c.if-not-is_executable.false) (sym counted));
      framed = c.begin.ensures.framed;
    }
