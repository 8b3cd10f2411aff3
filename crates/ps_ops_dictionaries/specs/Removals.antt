-- What taking a key out of a dictionary does, and what it asks for.
use Rattle.std.specs.Prelude.{ℕ, drop}
use Rattle.ps_language.specs.Access.{dictionary_at, with_dictionary}
use Rattle.ps_language.specs.Dictionaries.{without}
use Rattle.ps_language.specs.Effect.{Scene}
use Rattle.ps_language.specs.Objects.{changing}
use Rattle.ps_language.specs.Outcome.{unnamed}
use Rattle.ps_language.specs.Rows.{Row, naming_row}
use Rattle.ps_word.specs.declared.words.Word.{Word}
use Rattle.ps_mem.specs.Meaning.{value_of}
use Rattle.ps_dict.specs.Places.{first_place}
use Rattle.ps_ops_state.specs.Acts.{Asked}
use Rattle.ps_ops_dictionaries.specs.Asks.{removal_asked}

-- a key by its word, out of the dictionary at an address; both operands go
abbrev pub removing : (births : ℕ → ℕ) → (address : ℕ) → (key : Word) → Row
removing births address key = naming_row λ names store operands.
    unnamed names
    (changing (drop 2 operands) (with_dictionary store (births address)
    (record (dictionary_at store (births address)) {
      pairs = without (dictionary_at store (births address)).pairs (value_of births names key);
    })))

abbrev pub removing_asks : (births : ℕ → ℕ) → (address : ℕ) → (key : Word) → Scene → Asked
removing_asks births address key scene =
    removal_asked (dictionary_at scene.store (births address))
    (first_place (dictionary_at scene.store (births address)).pairs
    (value_of births scene.names key))
