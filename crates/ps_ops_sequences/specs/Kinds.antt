-- Of which kind operands are.
use Rattle.std.specs.Prelude.{ℕ, Bool, false, Option, Some, None, List, is_some, slice_get}
use Rattle.ps_word.specs.declared.words.Word.{Word}
use Rattle.ps_word.specs.Format.{content_in}
use Rattle.ps_word.specs.Readers.{as_text, as_dictionary}

-- of a word, if there is one
abbrev pub is_string : Option Word → Bool
is_string (Some w) = is_some (as_text (content_in w.0))
is_string None = false

abbrev pub is_dictionary : Option Word → Bool
is_dictionary (Some w) = is_some (as_dictionary (content_in w.0))
is_dictionary None = false

-- of the operand below so many others
abbrev pub is_string_at : List Word → ℕ → Bool
is_string_at operands depth = is_string (slice_get operands depth)

abbrev pub is_dictionary_at : List Word → ℕ → Bool
is_dictionary_at operands depth = is_dictionary (slice_get operands depth)
