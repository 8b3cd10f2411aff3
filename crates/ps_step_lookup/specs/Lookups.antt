-- What is looked up, and what was found.
use Rattle.std.specs.Prelude.{◌≡◌, ◌≢◌, ℕ, List, Option, Some, None, option_map, Result, Ok, Err}
use Rattle.std.specs.List.{AllPairs}
use Rattle.ps_language.specs.declared.errors.ErrorName.{ErrorName}
use Rattle.ps_language.specs.declared.errors.ErrorName.TheVariants.{InvalidAccess}
use Rattle.ps_language.specs.Access.{may_read}
use Rattle.ps_language.specs.Dictionaries.{find, pairs_of}
use Rattle.ps_language.specs.Outcome.{Outcome, leaves, fails, given_that}
use Rattle.ps_language.specs.Readers.{literal_name}
use Rattle.ps_language.specs.StepValues.{LookedUp, known, unknown, unreadable, looked_up}
use Rattle.ps_language.specs.Value.{Value, Store}
use Rattle.ps_word.specs.declared.words.Word.{Word}
use Rattle.ps_mem.specs.Heap.{Heap, birth_at}
use Rattle.ps_mem.specs.Meaning.{value_of}
use Rattle.ps_mem.specs.Shows.{IsWithin, Shows, pair_of}
use Rattle.ps_names.specs.Names.{place_of}
use Rattle.ps_ops_operands.specs.Changes.{values_in}

-- a key by its word, or the name of a text that was not met
abbrev pub IsSought : (births : ℕ → ℕ) → (names : List (List ℕ)) → Store → Option Word → Value
    → Type 0
IsSought births names s (Some w) k = (k ≡ value_of births names w) × IsWithin births names s w
IsSought births names s None k =
    (text : List ℕ) × (k ≡ literal_name text) × (place_of text names ≡ None)

-- what the definitions come to where the code comes to this
abbrev pub outcome_by : {A B : Type 0} → (A → B) → Result A ErrorName → Outcome B
outcome_by means (Ok found) = leaves (means found)
outcome_by means (Err error) = fails error

-- in one dictionary
abbrev pub LooksIn : (births : ℕ → ℕ) → (names : List (List ℕ)) → Store → (dictionary : Word)
    → Value → Result (Option Word) ErrorName → Type 0
LooksIn births names s dictionary k result =
    given_that (may_read s (value_of births names dictionary)) InvalidAccess
    (leaves (find (pairs_of s (value_of births names dictionary)) k))
    ≡ outcome_by (option_map (value_of births names)) result

-- through the dictionary stack
abbrev pub found_of : (births : ℕ → ℕ) → (names : List (List ℕ))
    → Result (Option (Word × Word)) ErrorName → Outcome (Option (Value × Value))
found_of births names = outcome_by (option_map (pair_of births names))

-- ---- the value of a name

-- what was found, without the dictionary that has it
abbrev pub second_of : {A B E : Type 0} → Result (Option (A × B)) E → Option B
second_of (Ok (Some found)) = Some found.1
second_of (Ok None) = None
second_of (Err error) = None

-- the value that is known
abbrev pub known_value : LookedUp → Option Value
known_value (known value) = Some value
known_value unknown = None
known_value unreadable = None

-- the value that a name has by the dictionary stack, or none, where it is unknown or one that can't
-- be read comes first
abbrev pub IsValueOf : Heap → (dictionaries : List Word) → (name : Word) → Option Word → Type 0
IsValueOf h dictionaries name found =
    (names : List (List ℕ)) (s : Store) → Shows h names s
    → AllPairs (λ first later. first ≢ later) names → IsWithin (birth_at h) names s name
    → option_map (value_of (birth_at h) names) found
    ≡ known_value (looked_up (value_of (birth_at h) names name) (values_in h names dictionaries) s)
