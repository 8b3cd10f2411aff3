-- Each operator is found by its number, and no other number has one.
use Rattle.std.proofs.Common.{◌≡◌, ℕ, ◌<◌, ◌≤◌, arith, refl, sym, slice_index_or}
use Rattle.std.proofs.lemmas.List.{get_or_past}
use Rattle.ps_language.specs.declared.operators.Operator.{Operator}
use Rattle.ps_language.specs.declared.operators.Operator.TheVariants.{Pop}
use Rattle.ps_language.specs.Operators.{every_operator, operator_count, operator_number}

pub operator_at-number : (o : Operator) → slice_index_or every_operator (operator_number o) Pop ≡ o
operator_at-number Pop = refl
operator_at-number _ = refl

pub operator_number-below : (o : Operator) → operator_number o < operator_count
operator_number-below Pop = omega arith
operator_number-below _ = omega arith

pub operator_past : (n : ℕ) → operator_count ≤ n → Pop ≡ slice_index_or every_operator n Pop
operator_past n h = sym (get_or_past every_operator n Pop h)
