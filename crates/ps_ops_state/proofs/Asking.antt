-- What rows ask for: nothing, or one object.
use Rattle.std.proofs.Common.{◌≡◌, Bool, true, false, List, [], ◌∷◌, ◌++◌, Option, Some, None, refl}
use Rattle.ps_language.specs.declared.errors.ErrorName.{ErrorName}
use Rattle.ps_language.specs.declared.errors.ErrorName.TheVariants.{StackUnderflow}
use Rattle.ps_language.specs.Value.{Value, Object, Store}
use Rattle.ps_language.specs.Outcome.{Outcome, leaves, fails, given, given_that, Change}
use Rattle.ps_language.specs.Objects.{made_between, making}
use Rattle.ps_language.specs.RowsSequences.{array_row, end_array_row, string_row}

-- what is left is such a change; an error leaves none
abbrev pub LeavesSuch : (Change → Type 0) → Outcome Change → Type 0
LeavesSuch P (leaves change) = P change
LeavesSuch P (fails error) = Unit {0}

-- the same as a record
pub record Leaving (P : Change → Type 0) (outcome : Outcome Change) : Type 0 where
  pub such : LeavesSuch P outcome

pub leaving_error : (P : Change → Type 0) (error : ErrorName) → Leaving P (fails error)
leaving_error P error = record { such = tt }

pub leaving_given : {A : Type 0} (P : Change → Type 0) (thing : Option A) (error : ErrorName)
    (next : A → Outcome Change) → ((a : A) → Leaving P (next a))
    → Leaving P (given thing error next)
leaving_given P None error next each = leaving_error P error
leaving_given P (Some a) error next each = each a

pub leaving_given_that : (P : Change → Type 0) (test : Bool) (error : ErrorName) (next : Outcome Change)
    → Leaving P next → Leaving P (given_that test error next)
leaving_given_that P true error next left = left
leaving_given_that P false error next left = leaving_error P error

-- ---- rows that ask for no room

abbrev pub IsUnasked : Store → Change → Type 0
IsUnasked store change = made_between store change.store ≡ 0

-- ---- rows that make one object

-- one object more
pub record IsMade (store : Store) (change : Change) : Type 0 where
  pub object : Object
  pub grown : change.store ≡ store ++ object ∷ []

making_made : (object : Object) (rest : List Value) (store : Store)
    → Leaving (IsMade store) (making object rest store)
making_made object rest store = record { such = record { object = object; grown = refl } }

pub array_made : (store : Store) (operands : List Value)
    → Leaving (IsMade store) (array_row store operands)
array_made store [] = leaving_error (IsMade store) StackUnderflow
array_made store (k ∷ rest) = search (leaving_given, leaving_given_that, making_made)

pub string_made : (store : Store) (operands : List Value)
    → Leaving (IsMade store) (string_row store operands)
string_made store [] = leaving_error (IsMade store) StackUnderflow
string_made store (k ∷ rest) = search (leaving_given, leaving_given_that, making_made)

pub end_array_made : (store : Store) (operands : List Value)
    → Leaving (IsMade store) (end_array_row store operands)
end_array_made store operands = search (leaving_given, making_made)
