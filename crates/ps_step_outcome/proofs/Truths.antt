-- Whether an error is new, by what stands under its key (PLRM2, 3.10).
use Rattle.std.proofs.Common.{◌≡◌, Bool, false, Option, Some, None, refl, sym, ap, ◌∙◌, true≢false}
use Rattle.std.specs.Prelude.{is_some}
use Rattle.std.specs.Option.{option_map_or}
use Rattle.ps_language.specs.Control.{as_boolean, boolean_in}
use Rattle.ps_language.specs.Dictionaries.{find}
use Rattle.ps_language.specs.StepErrors.{newerror_key, errorname_key, command_key, truth_in, has_new_error, error_line}
use Rattle.ps_language.specs.Value.{What, null_value, mark_value, integer_value, boolean_value, name_value}
use Rattle.ps_language.specs.Value.{operator_value, array_value, string_value, dictionary_value, lock_value}
use Rattle.ps_language.specs.Value.{condition_value, Value, Dictionary, Store}
use Rattle.ps_dict.specs.Places.{first_place}
use Rattle.ps_text.specs.Errors.{error_line_by}
use Rattle.ps_step_outcome.proofs.Entered.{place_found}

or_false : Option Bool → Bool
or_false (Some truth) = truth
or_false None = false

truth_what : (what : What) → truth_in what ≡ or_false (boolean_in what)
unfolding or_false
truth_what (boolean_value truth) = refl
truth_what null_value = refl
truth_what mark_value = refl
truth_what (integer_value _) = refl
truth_what (name_value _) = refl
truth_what (operator_value _) = refl
truth_what (array_value _) = refl
truth_what (string_value _) = refl
truth_what (dictionary_value _) = refl
truth_what (lock_value _) = refl
truth_what (condition_value _) = refl

pub truth_some : (value : Value) (truth : Bool) → as_boolean value ≡ Some truth
    → truth ≡ truth_in value.what
unfolding as_boolean or_false
truth_some value truth is = sym (truth_what value.what ∙ ap or_false is)

pub truth_none : (value : Value) → as_boolean value ≡ None → false ≡ truth_in value.what
unfolding as_boolean or_false
truth_none value is = sym (truth_what value.what ∙ ap or_false is)

pub new_some : (d : Dictionary) (value : Value) → Some value ≡ find d.pairs newerror_key
    → truth_in value.what ≡ has_new_error d
unfolding has_new_error
new_some d value is = ap (λ found. option_map_or (λ (v : Value). truth_in v.what) found false) is

pub new_none : (d : Dictionary) → None ≡ find d.pairs newerror_key → false ≡ has_new_error d
unfolding has_new_error
new_none d is = ap (λ found. option_map_or (λ (v : Value). truth_in v.what) found false) is

pub none_found : (d : Dictionary) → None ≡ first_place d.pairs newerror_key
    → has_new_error d ≡ false
none_found d none =
    sym (new_none d (is_none (find d.pairs newerror_key)
    (sym (place_found d.pairs newerror_key) ∙ ap is_some (sym none))))
  where
    is_none : (found : Option Value) → is_some found ≡ false → None ≡ found
    is_none None absent = refl
    is_none (Some value) absent = absurd (true≢false absent)

pub line_by : (s : Store) (d : Dictionary) → error_line s d
    ≡ error_line_by s (find d.pairs errorname_key) (find d.pairs command_key)
unfolding error_line
line_by s d = refl
