-- What an operator did, from what its row comes to.
use Rattle.std.proofs.Common.{◌≡◌, ℕ, List, Result, Ok, Err, refl, sym, subst}
use Rattle.ps_language.specs.declared.errors.ErrorName.{ErrorName}
use Rattle.ps_language.specs.Value.{Value}
use Rattle.ps_language.specs.Outcome.{Outcome, leaves, fails}
use Rattle.ps_word.specs.declared.words.Word.{Word}
use Rattle.ps_ops_operands.specs.Does.{values_of, DoesAs, Does}

-- the row leaves these operands
pub does_leaves : (row : List Value → Outcome (List Value)) (old new : List Word)
    → ((births : ℕ → ℕ) (names : List (List ℕ)) → row (values_of births names old)
    ≡ leaves (values_of births names new)) → Does row (Ok tt) old new
does_leaves row old new is =
    record {
      agrees = λ births names. subst (λ outcome. DoesAs (Ok tt) outcome births names old new)
          (sym (is births names)) refl;
    }

-- the row raises this error
pub does_fails : (row : List Value → Outcome (List Value)) (error : ErrorName) (old new : List Word)
    → ((births : ℕ → ℕ) (names : List (List ℕ)) → row (values_of births names old) ≡ fails error) → new ≡ old
    → Does row (Err error) old new
does_fails row error old new is kept =
    record {
      agrees = λ births names. subst (λ outcome. DoesAs (Err error) outcome births names old new)
          (sym (is births names)) (refl, kept);
    }

-- two rows of which each does the same there
pub does_same : (row other : List Value → Outcome (List Value)) (result : Result Unit ErrorName) (old new : List Word)
    → ((births : ℕ → ℕ) (names : List (List ℕ)) → other (values_of births names old) ≡ row (values_of births names old))
    → Does row result old new → Does other result old new
does_same row other result old new same did =
    record {
      agrees = λ births names. subst (λ outcome. DoesAs result outcome births names old new) (sym (same births names))
          (did.agrees births names);
    }
