-- The errors by the names that $error has of them.
use Rattle.std.specs.Prelude.{Option, option_and_then, slice_get}
use Rattle.ps_language.specs.declared.errors.ErrorName.{ErrorName}
use Rattle.ps_language.specs.Worlds.{every_error}
use Rattle.ps_word.specs.declared.words.Word.{Word}
use Rattle.ps_word.specs.Format.{content_in}
use Rattle.ps_word.specs.Readers.{as_name}

-- the error of a name, if it is one's: their names come first of all, in this order
abbrev pub error_of : Option Word → Option ErrorName
error_of word =
    option_and_then (slice_get every_error) (option_and_then (λ w. as_name (content_in w.0)) word)
