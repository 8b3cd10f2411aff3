-- What a word stands for: by the birth numbers at the addresses, and the texts of the names by
-- their numbers.
use Rattle.std.specs.Prelude.{ℕ, List, [], unwrap_or, slice_get}
use Rattle.ps_language.specs.Value.{Part as PartValue, What, null_value, mark_value, integer_value, boolean_value, name_value, operator_value, array_value, string_value, dictionary_value, lock_value, condition_value, Value}
use Rattle.ps_word.specs.declared.words.Word.{Word}
use Rattle.ps_word.specs.declared.values.Part.{Part}
use Rattle.ps_word.specs.declared.values.Content.{Content}
use Rattle.ps_word.specs.declared.values.Content.TheVariants.{Null, Integer, Boolean, Mark, Name, Operator, Array, Text, Dictionary, Lock, Condition, Body}
use Rattle.ps_word.specs.Format.{content_in, executable_in}

-- the text of the name of a number
abbrev pub text_of_name : List (List ℕ) → ℕ → List ℕ
text_of_name names number = unwrap_or (slice_get names number) []

abbrev pub part_of : (births : ℕ → ℕ) → Part → PartValue
part_of births p =
    record { birth = births p.address; offset = p.offset; count = p.length; access = p.access }

-- a body is no value; it reads as null
abbrev pub what_of : (births : ℕ → ℕ) → (names : List (List ℕ)) → Content → What
what_of births names Null = null_value
what_of births names (Integer number) = integer_value number
what_of births names (Boolean truth) = boolean_value truth
what_of births names Mark = mark_value
what_of births names (Name number) = name_value (text_of_name names number)
what_of births names (Operator operator) = operator_value operator
what_of births names (Array part) = array_value (part_of births part)
what_of births names (Text part) = string_value (part_of births part)
what_of births names (Dictionary address) = dictionary_value (births address)
what_of births names (Lock address) = lock_value (births address)
what_of births names (Condition address) = condition_value (births address)
what_of births names (Body address) = null_value

unfoldable pub value_of : (births : ℕ → ℕ) → (names : List (List ℕ)) → Word → Value
value_of births names w =
    record { what = what_of births names (content_in w.0); executable = executable_in w.0 }
