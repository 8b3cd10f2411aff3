-- What putting the entries of an error into a dictionary does, and how many records it takes.
use Rattle.std.specs.Prelude.{ℕ, zero, suc, ◌+◌, ◌-◌, ◌*◌, ◌/◌, ◌≡◌, min, nat_lt, if◌then◌else◌, Option, Some, None, true, false, List, [], ◌∷◌, ◌++◌, length}
use Rattle.ps_language.specs.declared.errors.ErrorName.{ErrorName}
use Rattle.ps_language.specs.Value.{Value, Dictionary}
use Rattle.ps_language.specs.Readers.{boolean, literal_name}
use Rattle.ps_language.specs.StepErrors.{newerror_key, errorname_key, command_key, error_text, with_entry}
use Rattle.ps_word.specs.declared.words.Word.{Word}
use Rattle.ps_mem.specs.Heap.{Heap, stored}
use Rattle.ps_dict.specs.declared.entries.ErrorEntries.{ErrorEntries}
use Rattle.ps_dict.specs.declared.entries.ErrorPlan.{ErrorPlan}
use Rattle.ps_dict.specs.Keys.{same_words}
use Rattle.ps_dict.specs.Places.{count_at, capacity_at, body_at, pairs_at, place_of, first_place}

-- ---- entries by values

-- entries put in order, none of which makes the dictionary grow
abbrev pub with_entries : List (Value × Value) → Dictionary → Dictionary
with_entries [] d = d
with_entries (entry ∷ entries) d = with_entries entries (with_entry entry.0 entry.1 d)

-- those of an error
abbrev pub error_entries : ErrorName → (command : Value) → List (Value × Value)
error_entries error command =
    (newerror_key, boolean true) ∷ (errorname_key, literal_name (error_text error))
    ∷ (command_key, command) ∷ []

-- ---- entries by words

-- in order
abbrev pub entry_pairs : ErrorEntries → List (Word × Word)
entry_pairs entries = entries.newerror ∷ entries.errorname ∷ entries.command ∷ []

-- no two keys are the same
pub record AreApart (entries : ErrorEntries) : Type 0 where
  pub errorname : same_words entries.newerror.0 entries.errorname.0 ≡ false
  pub command : same_words entries.newerror.0 entries.command.0 ≡ false
  pub last : same_words entries.errorname.0 entries.command.0 ≡ false

-- ---- the plan

-- of the keys among these pairs, where so many pairs more have room
unfoldable pub error_planned : Dictionary → (newerror errorname command : Value) → ErrorPlan
error_planned d newerror errorname command = record {
  newerror = first_place d.pairs newerror;
  errorname = first_place d.pairs errorname;
  command = first_place d.pairs command;
  room = d.capacity - length d.pairs;
}

-- of the words of entries in the dictionary at an address
unfoldable pub error_plan_at : Heap → ℕ → ErrorEntries → ErrorPlan
error_plan_at h address entries = record {
  newerror = place_of (pairs_at h address) entries.newerror.0;
  errorname = place_of (pairs_at h address) entries.errorname.0;
  command = place_of (pairs_at h address) entries.command.0;
  room = capacity_at h address - count_at h address;
}

abbrev pub one_where_there : Option ℕ → ℕ
one_where_there (Some place) = 1
one_where_there None = 0

-- how many of the keys are there, and how many of the others have room
abbrev pub present_in : ErrorPlan → ℕ
present_in plan =
    one_where_there plan.newerror + one_where_there plan.errorname + one_where_there plan.command

abbrev pub added_by : ErrorPlan → ℕ
added_by plan = min (3 - present_in plan) plan.room

-- a store for each position in the index, one for the pairs, and one for their number
abbrev pub added_records : ℕ → ℕ
added_records zero = 0
added_records (suc more) = suc more + 2

-- the stores that entries take: one for each key that is there, and those of the pairs added
abbrev pub error_records : ErrorPlan → ℕ
error_records plan = present_in plan + added_records (added_by plan)

-- ---- one entry

-- the value at the place of a key that is there
abbrev pub with_value_at : Heap → (address : ℕ) → Option ℕ → Word → Heap
with_value_at h address (Some place) value = stored h (body_at h address) (2 * place + 1)
    (value ∷ [])
with_value_at h address None value = h

-- the words that wait to be added, key before value, with those of an absent key where so many
-- pairs have room
abbrev pub waiting_with : Option ℕ → (room : ℕ) → Word × Word → List Word → List Word
waiting_with (Some place) room entry words = words
waiting_with None room entry words =
    if nat_lt (length words / 2) room then words ++ entry.0 ∷ entry.1 ∷ [] else words
