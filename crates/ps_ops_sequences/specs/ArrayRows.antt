-- The rows of the operators on arrays, strings and dictionaries, as far as the operands are arrays
-- (PLRM2, 8 'Operators': Array). Each is a part of the whole language's row: an operand that is no
-- array is a typecheck here.
use Rattle.std.specs.Prelude.{ℕ, List, ◌∷◌, Option, Some, None}
use Rattle.ps_language.specs.declared.errors.ErrorName.TheVariants.{InvalidAccess, RangeCheck, StackUnderflow, TypeCheck}
use Rattle.ps_language.specs.Value.{Part, Value, Store}
use Rattle.ps_language.specs.Outcome.{Outcome, leaves, fails, given, given_that, Change}
use Rattle.ps_language.specs.Readers.{as_integer, as_array, as_count, part_at, with_part}
use Rattle.ps_language.specs.Access.{is_readable}
use Rattle.ps_language.specs.RowsSequences.{get_element, put_element, interval_within}

-- A i get x
abbrev pub array_get_row : Store → List Value → Outcome (List Value)
array_get_row store (k ∷ x ∷ rest) =
    given (as_array x) TypeCheck λ part. get_element store part k rest
array_get_row store _ = fails StackUnderflow

-- A i x put
abbrev pub array_put_row : Store → List Value → Outcome Change
array_put_row store (y ∷ k ∷ x ∷ rest) =
    given (as_array x) TypeCheck λ part. put_element store part k y rest
array_put_row store _ = fails StackUnderflow

-- A i n getinterval B, with the access and attribute of A
abbrev pub array_getinterval_row : List Value → Outcome (List Value)
array_getinterval_row (y ∷ k ∷ x ∷ rest) =
    given (as_integer y) TypeCheck λ j.
    given (as_integer k) TypeCheck λ i.
    given (as_array x) TypeCheck λ part.
    given_that (is_readable part.access) InvalidAccess
    (given (as_count j) RangeCheck λ n.
    given (interval_within i n part.count) RangeCheck λ place.
    leaves (with_part x (part_at part place n) ∷ rest))
array_getinterval_row _ = fails StackUnderflow

-- ---- how many elements the rows store

-- put stores one
abbrev pub one_stored : List Value → ℕ
one_stored operands = 1

abbrev pub count_in : Option Part → ℕ
count_in (Some part) = part.count
count_in None = 0

-- putinterval and astore, as many as the topmost operand has
abbrev pub topmost_count : List Value → ℕ
topmost_count (x ∷ rest) = count_in (as_array x)
topmost_count _ = 0

-- copy, as many as the operand below the topmost one has
abbrev pub second_count : List Value → ℕ
second_count (y ∷ x ∷ rest) = count_in (as_array x)
second_count _ = 0
