-- What holds of what an outcome leaves.
use Rattle.std.specs.Prelude.{◌≡◌, Bool, true, false, Option, Some, None, if◌then◌else◌}
use mathlib.Core.Path.{refl}
use Rattle.ps_language.specs.declared.errors.ErrorName.{ErrorName}
use Rattle.ps_language.specs.Outcome.{Outcome, leaves, fails, given, given_that, and_then}

-- an error leaves nothing
pub data Leaves {A : Type 0} (P : A → Type 0) : Outcome A → Type 0 where
  left_with : {left : A} → P left → Leaves P (leaves left)
  left_none : {error : ErrorName} → Leaves P (fails error)

module _ {A : Type 0} (P : A → Type 0) where
  pub given-leaves : {B : Type 0} (found : Option B) (error : ErrorName) (next : B → Outcome A)
      → ((b : B) → Leaves P (next b)) → Leaves P (given found error next)
  given-leaves None error next each = left_none
  given-leaves (Some b) error next each = each b

  pub given_that-when : (test : Bool) (error : ErrorName) (next : Outcome A)
      → (test ≡ true → Leaves P next) → Leaves P (given_that test error next)
  given_that-when true error next when = when refl
  given_that-when false error next when = left_none

  pub given_that-leaves : (test : Bool) (error : ErrorName) (next : Outcome A) → Leaves P next
      → Leaves P (given_that test error next)
  given_that-leaves test error next left = given_that-when test error next (λ holds. left)

  pub and_then-leaves : {B : Type 0} (Q : B → Type 0) (first : Outcome B)
      (next : B → Outcome A) → Leaves Q first → ((b : B) → Q b → Leaves P (next b))
      → Leaves P (and_then first next)
  and_then-leaves Q (leaves b) next (left_with q) each = each b q
  and_then-leaves Q (fails error) next left each = left_none

  -- of two outcomes that a test chooses from
  pub if-leaves : (test : Bool) (a b : Outcome A) → Leaves P a → Leaves P b
      → Leaves P (if test then a else b)
  if-leaves true a b left other = left
  if-leaves false a b left other = other

-- of all that could be left
pub each-leaves : {A : Type 0} (P : A → Type 0) (outcome : Outcome A) → ((left : A) → P left)
    → Leaves P outcome
each-leaves P (leaves left) each = left_with (each left)
each-leaves P (fails error) each = left_none

-- what an outcome leaves, from what it asks first
pub ruleset leaving = (given-leaves, given_that-leaves, if-leaves, left_with, left_none)
