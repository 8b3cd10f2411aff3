-- When what an operator did is its row.
use Rattle.std.specs.Prelude.{◌≡◌, ℕ, ℤ, Option, List, ◌∷◌, map, drop, Result, Ok, Err}
use Rattle.ps_language.specs.declared.errors.ErrorName.{ErrorName}
use Rattle.ps_language.specs.declared.errors.ErrorName.TheVariants.{TypeCheck, StackUnderflow}
use Rattle.ps_language.specs.declared.errors.ErrorName.TheVariants.{UndefinedResult}
use Rattle.ps_language.specs.Value.{Value}
use Rattle.ps_language.specs.Outcome.{Outcome, leaves, fails, given}
use Rattle.ps_language.specs.Readers.{integer, as_integer, push}
use Rattle.ps_language.specs.RowsStack.{copy_count}
use Rattle.ps_word.specs.declared.words.Word.{Word}
use Rattle.ps_mem.specs.Meaning.{value_of}

-- the operands that words stand for
abbrev pub values_of : (births : ℕ → ℕ) → (names : List (List ℕ)) → List Word → List Value
values_of births names words = map (value_of births names) words

-- the same as an outcome
abbrev pub outcome_of : {A : Type 0} → Result A ErrorName → Outcome A
outcome_of (Ok left) = leaves left
outcome_of (Err error) = fails error

-- ---- what an operator came to, by its row

-- it is done, or an error was raised, or it was not made for a reason
pub data Conclusion (R : Type 0) : Type 0 where
  did : Conclusion R
  raised : (error : ErrorName) → Conclusion R
  unmade : (reason : R) → Conclusion R

abbrev pub concluded : {R : Type 0} → Result Unit ErrorName → Conclusion R
concluded (Ok _) = did
concluded (Err error) = raised error

-- Where the row leaves something, it is left; where the row fails, its error was raised; where it
-- was not made, the row leaves something and there is a reason. After an error and where it was not
-- made all is as it was
abbrev pub Agrees : {A R : Type 0} → (IsLeft : A → Type 0) → (IsReason : R → A → Type 0)
    → (same : Type 0) → Conclusion R → Outcome A → Type 0
Agrees IsLeft IsReason same did (leaves left) = IsLeft left
Agrees IsLeft IsReason same (raised error) (fails expected) = (error ≡ expected) × same
Agrees IsLeft IsReason same (unmade reason) (leaves left) = IsReason reason left × same
Agrees IsLeft IsReason same conclusion outcome = ⊥

-- of an operator that is always made
abbrev pub AgreesMade : {A : Type 0} → (IsLeft : A → Type 0) → (same : Type 0)
    → Result Unit ErrorName → Outcome A → Type 0
AgreesMade IsLeft same result outcome =
    Agrees IsLeft (λ (reason : ⊥) left. ⊥) same (concluded result) outcome

-- ---- on operands alone

-- the operands that the row leaves, or its error with the operands as they were
abbrev pub DoesAs : Result Unit ErrorName → Outcome (List Value) → (births : ℕ → ℕ)
    → (names : List (List ℕ)) → (old new : List Word) → Type 0
DoesAs result outcome births names old new =
    AgreesMade (λ left. values_of births names new ≡ left) (new ≡ old) result outcome

-- an operator that came to this result did what its row says, whatever the memory
pub record Does (row : List Value
    → Outcome (List Value)) (result : Result Unit ErrorName) (old new : List Word) : Type 0 where
  pub agrees : (births : ℕ → ℕ) (names : List (List ℕ))
      → DoesAs result (row (values_of births names old)) births names old new

-- an operator that pushes a word came to this result
pub record Pushes (w : Word) (result : Result Unit ErrorName) (old new : List Word) : Type 0 where
  pub agrees : (births : ℕ → ℕ) (names : List (List ℕ))
      → DoesAs result (push (value_of births names w) (values_of births names old)) births names old
      new

-- what was read is what the row reads, whatever the memory
pub record Reads {A : Type 0} (row : List Value
    → Outcome A) (result : Result A ErrorName) (words : List Word) : Type 0 where
  pub agrees : (births : ℕ → ℕ) (names : List (List ℕ)) → row (values_of births names words)
      ≡ outcome_of result

-- x1 .. xn n copy x1 .. xn x1 .. xn
abbrev pub copy_number_row : List Value → Outcome (List Value)
copy_number_row (k ∷ rest) = given (as_integer k) TypeCheck λ i. copy_count i rest
copy_number_row _ = fails StackUnderflow

-- the two topmost operands as integers, the topmost second
abbrev pub two_integers : List Value → Outcome (ℤ × ℤ)
two_integers (y ∷ x ∷ rest) =
    given (as_integer y) TypeCheck λ j.
    given (as_integer x) TypeCheck λ i.
    leaves (i, j)
two_integers _ = fails StackUnderflow

-- the topmost operand as an integer
abbrev pub one_integer : List Value → Outcome ℤ
one_integer (x ∷ rest) = given (as_integer x) TypeCheck λ i. leaves i
one_integer _ = fails StackUnderflow

-- an integer, if it is defined, in the place of the topmost operands
abbrev pub number_put : ℕ → Option ℤ → List Value → Outcome (List Value)
number_put count number values =
    given number UndefinedResult λ k. leaves (integer k ∷ drop count values)
