-- The entries of an error, where the context goes on and where it ends (PLRM2, 3.10).
use Rattle.std.specs.Prelude.{◌≡◌, ℕ, Bool, false, List, [], ◌∷◌}
use Rattle.ps_language.specs.declared.errors.ErrorName.{ErrorName}
use Rattle.ps_language.specs.Value.{Value}
use Rattle.ps_language.specs.Readers.{boolean, literal_name}
use Rattle.ps_word.specs.declared.values.Content.TheVariants.{Name}
use Rattle.ps_word.specs.declared.words.Word.{Word}
use Rattle.ps_word.specs.Format.{value_in, IsWord}
use Rattle.ps_language.specs.StepErrors.{newerror_key, errorname_key, command_key, error_text}

-- new: the value of newerror; false where its line was printed
abbrev pub entries_with : (new : Bool) → ErrorName → (command : Value) → List (Value × Value)
entries_with new error command =
    (newerror_key, boolean new) ∷ (errorname_key, literal_name (error_text error))
    ∷ (command_key, command) ∷ []

-- the word of the literal name of a number
pub record IsNamed (number : ℕ) (w : Word) : Type 0 where
  pub is : value_in w.0 ≡ record { content = Name number; executable = false }
  pub word : IsWord w.0
