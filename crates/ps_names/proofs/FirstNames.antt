-- The names met at the start, one by one.
use Rattle.std.proofs.Common.{◌≡◌, ℕ, zero, suc, ◌<◌, ◌+◌, List, [], ◌∷◌, ◌++◌, map, length, take, Some, refl, sym, ap}
use Rattle.std.proofs.Common.{arith, ◌∙◌}
use Rattle.std.specs.Prelude.{slice_get, slice_index_or, fold}
use Rattle.std.proofs.lemmas.List.Sums.{fold_more}
use Rattle.std.proofs.lemmas.Option.{slice_get_within, get_or_from_slice_get}
use Rattle.ps_language.specs.declared.operators.Operator.TheVariants.{Pop}
use Rattle.ps_language.specs.Operators.{every_operator, operator_count, operator_name}
use Rattle.ps_language.specs.Dictionaries.{meet}
use Rattle.ps_language.specs.Worlds.{first_names, names_of, value_pairs, every_error, type_names}
use Rattle.ps_language.specs.StepErrors.{error_text, new_error_pairs}

-- as many as so
abbrev pub first_met : ℕ → List (List ℕ)
first_met count = fold meet [] (take count first_names)

-- how many there are
abbrev pub first_count : ℕ
first_count = 35 + operator_count

-- none stands twice
pub all_met : first_met first_count ≡ first_names
unfolding first_names
all_met = refl

pub met_next : (count : ℕ) (text : List ℕ) (names : List (List ℕ)) → names ≡ first_met count
    → slice_get first_names count ≡ Some text → meet names text ≡ first_met (count + 1)
met_next count text names are at =
    ap (λ ns. meet ns text) are
    ∙ (ap (meet (first_met count)) (sym (get_or_from_slice_get first_names count text [] at))
    ∙ sym (fold_more meet [] first_names count [] (slice_get_within first_names count text at)))

mapped : {A B : Type 0} (f : A → B) (d : A) (xs : List A) (i : ℕ) → i < length xs
    → slice_get (map f xs) i ≡ Some (f (slice_index_or xs i d))
mapped f d [] i within = absurd (omega (arith, within))
mapped f d (x ∷ xs) zero within = refl
mapped f d (x ∷ xs) (suc i) within = mapped f d xs i (omega (arith, within))

behind : {A : Type 0} (xs ys : List A) (i : ℕ)
    → slice_get (xs ++ ys) (length xs + i) ≡ slice_get ys i
behind [] ys i = let same : 0 + i ≡ i = omega arith in ap (slice_get ys) same
behind (x ∷ xs) ys i =
    let same : length (x ∷ xs) + i ≡ suc (length xs + i) = omega arith in
    ap (slice_get (x ∷ xs ++ ys)) same ∙ behind xs ys i

-- the operators by their numbers, behind all others
pub operator_first : (number : ℕ) → number < operator_count
    → slice_get first_names (35 + number)
    ≡ Some (operator_name (slice_index_or every_operator number Pop))
unfolding first_names
operator_first number within =
    behind (map error_text every_error ++ type_names ++ names_of new_error_pairs ++ names_of value_pairs)
    (map operator_name every_operator) number
    ∙ mapped operator_name Pop every_operator number within
