use Rattle.std.proofs.Common.{rules, w32, sym}
use Rattle.std.proofs.lemmas.Int.{to_z-of_z}
use mir.Val.{SFits}
use Rattle.ps_ops_operands.proofs.StackRows.{index_underflow, index_done}
use Rattle.ps_ops_operands.proofs.Sources.{from_read}
use Rattle.ps_ops_operands.proofs.stack_operators.index.Goals as goal

pub returns-in_default-peek-clause-row : goal.returns-in_default-peek-clause-row
returns-in_default-peek-clause-row c =
    let fits : SFits w32 c.in-Some-as_integer.number = search rules in
    index_underflow _ _ c.in-Some.ensures _ c.in-Some-as_integer.ensures _
    (simp to_z-of_z at c.in-Some-count_of.ensures.count) c.in_default-peek.ensures

pub returns-clause-row : goal.returns-clause-row
returns-clause-row c =
    let fits : SFits w32 c.in-Some-as_integer.number = search rules in
    index_done _ _ c.in-Some.ensures _ c.in-Some-as_integer.ensures _
    (simp to_z-of_z at c.in-Some-count_of.ensures.count) _ _ c.in-Some-peek.ensures c.replace.ensures

pub returns-clause-kept : goal.returns-clause-kept
returns-clause-kept c = from_read _ _ _ 1 _ c.replace.ensures (sym c.in-Some-peek.ensures)
