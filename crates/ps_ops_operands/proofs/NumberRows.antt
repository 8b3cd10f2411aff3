-- The operators on integers, by what they read and what they put.
use Rattle.std.proofs.Common.{◌≡◌, ℕ, ℤ, List, [], ◌∷◌, drop, Option, Some, None, Result, Ok, Err, refl, ◌∙◌, ap, subst}
use Rattle.std.proofs.lemmas.List.{drop-map}
use Rattle.ps_language.specs.declared.errors.ErrorName.{ErrorName}
use Rattle.ps_language.specs.declared.errors.ErrorName.TheVariants.{TypeCheck, UndefinedResult}
use Rattle.ps_language.specs.Value.{Value}
use Rattle.ps_language.specs.Outcome.{Outcome, leaves, given, and_then}
use Rattle.ps_language.specs.Readers.{integer, as_integer}
use Rattle.ps_language.specs.RowsArithmetic.{of_two_integers, of_one_integer}
use Rattle.ps_word.specs.declared.words.Word.{Word}
use Rattle.ps_mem.specs.Meaning.{value_of}
use Rattle.ps_ops_operands.specs.Does.{values_of, Does, Reads, two_integers, one_integer, number_put}
use Rattle.ps_ops_operands.proofs.Doing.{does_leaves, does_fails, does_same}

-- ---- integers

abbrev result_put : (ℤ → ℤ → Option ℤ) → List Value → (ℤ × ℤ) → Outcome (List Value)
result_put f values pair = number_put 2 (f pair.0 pair.1) values

abbrev after_two : (ℤ → ℤ → Option ℤ) → List Value → Outcome (ℤ × ℤ) → Outcome (List Value)
after_two f values read = and_then read (result_put f values)

-- an operator of two integers reads two and puts one
by_parts : (f : ℤ → ℤ → Option ℤ) (values : List Value)
    → of_two_integers f values ≡ after_two f values (two_integers values)
by_parts f [] = refl
by_parts f (y ∷ []) = refl
by_parts f (y ∷ x ∷ rest) =
    elim (as_integer y) as
    (λ (n : Option ℤ). given n TypeCheck (λ j. given (as_integer x) TypeCheck
    (λ i. given (f i j) UndefinedResult (λ k. leaves (integer k ∷ rest))))
    ≡ after_two f (y ∷ x ∷ rest) (given n TypeCheck (λ j. given (as_integer x) TypeCheck (λ i. leaves (i, j))))) [
      | None ↦ refl
      | Some j ↦ elim (as_integer x) as
          (λ (m : Option ℤ). given m TypeCheck (λ i. given (f i j) UndefinedResult (λ k. leaves (integer k ∷ rest)))
          ≡ after_two f (y ∷ x ∷ rest) (given m TypeCheck (λ i. leaves (i, j)))) [
            | None ↦ refl
            | Some i ↦ refl
          ]
    ]

pub two_fail : (f : ℤ → ℤ → Option ℤ) (error : ErrorName) (words : List Word) → Reads two_integers (Err error) words
    → Does (of_two_integers f) (Err error) words words
two_fail f error words read =
    does_fails (of_two_integers f) error words words
    (λ births names. by_parts f (values_of births names words)
    ∙ ap (after_two f (values_of births names words)) (read.agrees births names)) refl

pub two_put : (f : ℤ → ℤ → Option ℤ) (i j : ℤ) (number : Option ℤ) (result : Result Unit ErrorName)
    (old new : List Word)
    → Reads two_integers (Ok (i, j)) old → number ≡ f i j → Does (number_put 2 number) result old new
    → Does (of_two_integers f) result old new
two_put f i j number result old new read is did =
    does_same (number_put 2 (f i j)) (of_two_integers f) result old new
    (λ births names. by_parts f (values_of births names old)
    ∙ ap (after_two f (values_of births names old)) (read.agrees births names))
    (subst (λ n. Does (number_put 2 n) result old new) is did)

abbrev after_one : (ℤ → Option ℤ) → List Value → Outcome ℤ → Outcome (List Value)
after_one f values read = and_then read (λ i. number_put 1 (f i) values)

-- and one of one
by_part : (f : ℤ → Option ℤ) (values : List Value) → of_one_integer f values ≡ after_one f values (one_integer values)
by_part f [] = refl
by_part f (x ∷ rest) =
    elim (as_integer x) as
    (λ (n : Option ℤ). given n TypeCheck (λ i. given (f i) UndefinedResult (λ k. leaves (integer k ∷ rest)))
    ≡ after_one f (x ∷ rest) (given n TypeCheck (λ i. leaves i))) [
      | None ↦ refl
      | Some i ↦ refl
    ]

pub one_fail : (f : ℤ → Option ℤ) (error : ErrorName) (words : List Word) → Reads one_integer (Err error) words
    → Does (of_one_integer f) (Err error) words words
one_fail f error words read =
    does_fails (of_one_integer f) error words words
    (λ births names. by_part f (values_of births names words)
    ∙ ap (after_one f (values_of births names words)) (read.agrees births names)) refl

pub one_put : (f : ℤ → Option ℤ) (i : ℤ) (number : Option ℤ) (result : Result Unit ErrorName) (old new : List Word)
    → Reads one_integer (Ok i) old → number ≡ f i → Does (number_put 1 number) result old new
    → Does (of_one_integer f) result old new
one_put f i number result old new read is did =
    does_same (number_put 1 (f i)) (of_one_integer f) result old new
    (λ births names. by_part f (values_of births names old)
    ∙ ap (after_one f (values_of births names old)) (read.agrees births names))
    (subst (λ n. Does (number_put 1 n) result old new) is did)

-- ---- a word in the place of the topmost ones

pub word_put : (count : ℕ) (result : Option ℤ) (number : ℤ) (w : Word) (old new : List Word) → result ≡ Some number
    → ((births : ℕ → ℕ) (names : List (List ℕ)) → value_of births names w ≡ integer number) → new ≡ w ∷ drop count old
    → Does (number_put count result) (Ok tt) old new
word_put count result number w old new some value is =
    does_leaves (number_put count result) old new
    (λ births names. rw (some, is, value births names)
    (ap (λ (values : List Value). leaves (integer number ∷ values)) (drop-map (value_of births names) count old)))

pub ruleset two_lemmas = (two_fail, two_put)

pub ruleset one_lemmas = (one_fail, one_put)
