use Rattle.std.proofs.Common.{◌≡◌, rules, w32, arith}
use Rattle.std.proofs.lemmas.Int.{to_z-of_z}
use mir.Val.{SFits}
use Rattle.ps_ops_operands.proofs.StackRows.{roll_underflow, roll_done, roll_none}
use Rattle.ps_ops_operands.proofs.Sources.{from_dropped, from_rotated}
use Rattle.ps_ops_operands.proofs.stack_operators.roll.Goals as goal

pub returns-then-len-count-clause-row : goal.returns-then-len-count-clause-row
returns-then-len-count-clause-row c =
    let fits : SFits w32 c.in-Some-as_integer-2.number = search rules in
    roll_underflow _ _ _ _ _ _ c.in-Some.ensures c.in-Some-as_integer.ensures c.in-Some-as_integer-2.ensures
    (simp to_z-of_z at c.in-Some-count_of.ensures.count) (omega arith)

pub returns-then-count-gt0-clause-row : goal.returns-then-count-gt0-clause-row
returns-then-count-gt0-clause-row c =
    let fits : SFits w32 c.in-Some-as_integer-2.number = search rules in
    let fits_places : SFits w32 c.in-Some-as_integer.places = search rules in
    roll_done _ _ _ _ _ _ _ _ c.in-Some.ensures c.in-Some-as_integer.ensures c.in-Some-as_integer-2.ensures
    (simp to_z-of_z at c.in-Some-count_of.ensures.count) (omega arith)
    (simp to_z-of_z at c.rotation_of.ensures.value) (rw c.discard.ensures at c.rotate.ensures)

pub returns-then-count-gt0-clause-kept : goal.returns-then-count-gt0-clause-kept
returns-then-count-gt0-clause-kept c = from_rotated _ _ c.discard.new.self _ _ 2 c.discard.ensures c.rotate.ensures

pub returns-else-count-gt0-clause-row : goal.returns-else-count-gt0-clause-row
returns-else-count-gt0-clause-row c =
    let fits : SFits w32 c.in-Some-as_integer-2.number = search rules in
    let zero : c.in-Some-count_of.count ≡ 0 = omega arith in
    roll_none _ _ _ _ _ _ _ c.in-Some.ensures c.in-Some-as_integer.ensures c.in-Some-as_integer-2.ensures
    (simp to_z-of_z at c.in-Some-count_of.ensures.count) zero c.discard.ensures

pub returns-else-count-gt0-clause-kept : goal.returns-else-count-gt0-clause-kept
returns-else-count-gt0-clause-kept c = from_dropped _ _ 2 c.discard.ensures
