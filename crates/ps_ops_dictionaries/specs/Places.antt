-- Where store puts a key.
use Rattle.std.specs.Prelude.{◌≡◌, ℕ, List, Option, option_map, Result}
use Rattle.ps_language.specs.declared.errors.ErrorName.{ErrorName}
use Rattle.ps_language.specs.Outcome.{Outcome, leaves, and_then}
use Rattle.ps_language.specs.RowsDictionaries.{storing_place}
use Rattle.ps_language.specs.Value.{Value}
use Rattle.ps_word.specs.declared.words.Word.{Word}
use Rattle.ps_mem.specs.Meaning.{value_of}
use Rattle.ps_step_lookup.specs.Lookups.{outcome_by}

-- where a key was found through the dictionary stack, else the current dictionary
abbrev pub place_by : Outcome (Option (Value × Value)) → (dictionaries : List Value)
    → Outcome (Option Value)
place_by looked dictionaries = and_then looked λ found. leaves (storing_place found dictionaries)

-- the words come to what the definitions come to
abbrev pub IsPlaced : (births : ℕ → ℕ) → (names : List (List ℕ))
    → Outcome (Option (Value × Value)) → (dictionaries : List Value)
    → Result (Option Word) ErrorName → Type 0
IsPlaced births names looked dictionaries result =
    place_by looked dictionaries ≡ outcome_by (option_map (value_of births names)) result
