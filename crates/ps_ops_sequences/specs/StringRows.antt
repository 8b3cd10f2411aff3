-- The rows of the operators on arrays, strings and dictionaries, as far as the operands are strings
-- (PLRM2, 8 'Operators': String). Each is a part of the whole language's row: an operand that is no
-- string is a typecheck here.
use Rattle.std.specs.Prelude.{ℕ, List, ◌∷◌}
use Rattle.ps_language.specs.declared.errors.ErrorName.TheVariants.{InvalidAccess, RangeCheck, StackUnderflow, TypeCheck}
use Rattle.ps_language.specs.Value.{Value, Store}
use Rattle.ps_language.specs.Outcome.{Outcome, leaves, fails, given, given_that, Change}
use Rattle.ps_language.specs.Readers.{as_integer, as_string, as_count, part_at, with_part}
use Rattle.ps_language.specs.Access.{is_readable}
use Rattle.ps_ops_sequences.specs.ArrayRows.{count_in}
use Rattle.ps_language.specs.RowsSequences.{get_byte, put_byte, interval_within}

-- S i get b
abbrev pub string_get_row : Store → List Value → Outcome (List Value)
string_get_row store (k ∷ x ∷ rest) = given (as_string x) TypeCheck
    λ part. get_byte store part k rest
string_get_row store _ = fails StackUnderflow

-- S i b put
abbrev pub string_put_row : Store → List Value → Outcome Change
string_put_row store (y ∷ k ∷ x ∷ rest) = given (as_string x) TypeCheck
    λ part. put_byte store part k y rest
string_put_row store _ = fails StackUnderflow

-- S i n getinterval T, with the access and attribute of S
abbrev pub string_getinterval_row : List Value → Outcome (List Value)
string_getinterval_row (y ∷ k ∷ x ∷ rest) =
    given (as_integer y) TypeCheck λ j.
    given (as_integer k) TypeCheck λ i.
    given (as_string x) TypeCheck λ part.
    given_that (is_readable part.access) InvalidAccess
    (given (as_count j) RangeCheck λ n.
    given (interval_within i n part.count) RangeCheck λ place.
    leaves (with_part x (part_at part place n) ∷ rest))
string_getinterval_row _ = fails StackUnderflow

-- ---- how many bytes putinterval and copy store

abbrev pub topmost_bytes : List Value → ℕ
topmost_bytes (x ∷ rest) = count_in (as_string x)
topmost_bytes _ = 0

abbrev pub second_bytes : List Value → ℕ
second_bytes (y ∷ x ∷ rest) = count_in (as_string x)
second_bytes _ = 0
