-- What the operators that compare find of two values, and their rows (PLRM2, 8 'Operators':
-- Relational, Boolean and Bitwise).
use Rattle.std.specs.Prelude.{◌≡◌, ◌≢◌, ℕ, ◌&&◌, Bool, true, false, List, Result, AllPairs}
use Rattle.std.specs.declared.cmp.Ordering.{Ordering}
use Rattle.std.specs.Ordering.{is_lt, is_le, is_gt, is_ge}
use Rattle.ps_language.specs.declared.errors.ErrorName.{ErrorName}
use Rattle.ps_language.specs.declared.errors.ErrorName.TheVariants.{InvalidAccess, TypeCheck}
use Rattle.ps_language.specs.Access.{may_read_text}
use Rattle.ps_language.specs.Equality.{are_equal}
use Rattle.ps_language.specs.Outcome.{Outcome, leaves, given, given_that}
use Rattle.ps_language.specs.RowsRelations.{comparison, eq_row, ne_row, gt_row, ge_row, lt_row}
use Rattle.ps_language.specs.RowsRelations.{le_row}
use Rattle.ps_language.specs.Value.{Value, Store}
use Rattle.ps_word.specs.declared.words.Word.{Word}
use Rattle.ps_mem.specs.Heap.{Heap, birth_at}
use Rattle.ps_mem.specs.Meaning.{value_of}
use Rattle.ps_mem.specs.Shows.{IsWithin, Shows}
use Rattle.ps_ops_operands.specs.Does.{outcome_of}
use Rattle.ps_ops_values.specs.declared.orders.Relation.{Relation}
use Rattle.ps_ops_values.specs.declared.orders.Relation.TheVariants.{Greater}
use Rattle.ps_ops_values.specs.declared.orders.Relation.TheVariants.{GreaterOrEqual, Less}
use Rattle.ps_ops_values.specs.declared.orders.Relation.TheVariants.{LessOrEqual}

-- ---- what is found of two values

-- whether they are equal
abbrev pub equality : Store → (a b : Value) → Outcome Bool
equality store a b =
    given_that (may_read_text b && may_read_text a) InvalidAccess (leaves (are_equal store a b))

-- how they compare
abbrev pub order : Store → (a b : Value) → Outcome Ordering
order store a b =
    given (comparison store a b) TypeCheck λ found.
    given_that (may_read_text b && may_read_text a) InvalidAccess (leaves found)

-- for every store that the memory shows, this was found of what two words stand for
pub record Finds {A : Type 0} (of : Store → (a b : Value) → Outcome A) (result : Result A ErrorName)
    (h : Heap) (names : List (List ℕ)) (left right : Word) : Type 0 where
  pub agrees : (store : Store) → Shows h names store → AllPairs (λ one later. one ≢ later) names
      → IsWithin (birth_at h) names store left → IsWithin (birth_at h) names store right
      → of store (value_of (birth_at h) names left) (value_of (birth_at h) names right)
      ≡ outcome_of result

-- ---- the rows

-- eq where equal values are wanted, else ne
abbrev pub equality_row_as : (wanted : Bool) → Store → List Value → Outcome (List Value)
equality_row_as true = eq_row
equality_row_as false = ne_row

-- what is asked of an order
abbrev pub holds : Relation → Ordering → Bool
holds Greater = is_gt
holds GreaterOrEqual = is_ge
holds Less = is_lt
holds LessOrEqual = is_le

-- gt, ge, lt or le
abbrev pub order_row_as : Relation → Store → List Value → Outcome (List Value)
order_row_as Greater = gt_row
order_row_as GreaterOrEqual = ge_row
order_row_as Less = lt_row
order_row_as LessOrEqual = le_row
