-- The last error of a context (PLRM2, 3.10).
use Rattle.std.specs.Prelude.{ℕ, Bool, false, Option, option_and_then}
use Rattle.std.specs.Option.{option_map_or}
use Rattle.ps_language.specs.Access.{dictionary_at}
use Rattle.ps_language.specs.Contexts.{context_at}
use Rattle.ps_language.specs.Dictionaries.{find}
use Rattle.ps_language.specs.StepErrors.{errorname_key, command_key, has_new_error}
use Rattle.ps_language.specs.Value.{Value}
use Rattle.ps_language.specs.World.{World}

-- what stands under a key of the $error of a context
abbrev pub error_entry : (key : Value) → World → (context : ℕ) → Option Value
error_entry key now context = option_and_then
    (λ one. find (dictionary_at now.store one.error_dictionary).pairs key) (context_at now context)

-- its name and what raised it, as far as they stand there
abbrev pub last_error_name : World → (context : ℕ) → Option Value
last_error_name now context = error_entry errorname_key now context

abbrev pub last_error_command : World → (context : ℕ) → Option Value
last_error_command now context = error_entry command_key now context

-- whether it is new: no line of it was printed
abbrev pub has_new_error_at : World → (context : ℕ) → Bool
has_new_error_at now context = option_map_or
    (λ one. has_new_error (dictionary_at now.store one.error_dictionary)) (context_at now context)
    false
