-- The arms behind the count by the row.
use Rattle.std.proofs.Common.{arith, rules, w32}
use Rattle.std.proofs.lemmas.Int.{to_z-of_z}
use mir.Val.{SFits}
use Rattle.ps_ops_operands.proofs.StackRows.{copy_underflow, copy_overflow, copy_done}
use Rattle.ps_ops_operands.proofs.Sources.{from_repeated}
use Rattle.ps_ops_operands.proofs.stack_operators.copy_count.Goals as goal

pub returns-then-below-count-clause-row : goal.returns-then-below-count-clause-row
returns-then-below-count-clause-row c =
    let fits : SFits w32 c.in-Some-as_integer.number = search rules in
    copy_underflow _ _ c.in-Some.ensures _ c.in-Some-as_integer.ensures _
    (simp to_z-of_z at c.in-Some-count_of.ensures.count) (omega arith)

pub returns-then-below-count-2-clause-row : goal.returns-then-below-count-2-clause-row
returns-then-below-count-2-clause-row c =
    let fits : SFits w32 c.in-Some-as_integer.number = search rules in
    copy_overflow _ _ c.in-Some.ensures _ c.in-Some-as_integer.ensures _
    (simp to_z-of_z at c.in-Some-count_of.ensures.count) (omega arith) (omega arith)

pub returns-clause-row : goal.returns-clause-row
returns-clause-row c =
    let fits : SFits w32 c.in-Some-as_integer.number = search rules in
    copy_done _ _ c.in-Some.ensures _ c.in-Some-as_integer.ensures _
    (simp to_z-of_z at c.in-Some-count_of.ensures.count) _ (omega arith) (omega arith) (omega arith)
    (rw c.discard.ensures at c.repeat.ensures)

pub returns-clause-kept : goal.returns-clause-kept
returns-clause-kept c = from_repeated _ _ c.discard.new.self _ 1 c.discard.ensures c.repeat.ensures
