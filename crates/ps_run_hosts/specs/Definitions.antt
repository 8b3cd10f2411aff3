-- What a host is handed of a definition that it puts before a program.
use Rattle.std.specs.Prelude.{◌≡◌, ℕ, List, length, Result, Ok, Err}
use Rattle.ps_prologues.specs.declared.definitions.DefinedValue.{DefinedValue}
use Rattle.ps_prologues.specs.declared.definitions.DefinitionFault.{DefinitionFault}
use Rattle.ps_prologues.specs.declared.definitions.DefinitionFault.TheVariants.{BadName, TooLong, Memory}
use Rattle.ps_prologues.specs.Prologues.{definition_text, FitsLimit, IsNameText, IsNoDefinition}
use Rattle.ps_run_hosts.specs.Hosts.{handed}

abbrev pub code_of_fault : DefinitionFault → ℕ
code_of_fault BadName = 25
code_of_fault TooLong = 26
code_of_fault Memory = 17

-- what comes of a definition: its text, or why there is none
abbrev pub IsDefinition : (name : List ℕ) → DefinedValue → Result (List ℕ) DefinitionFault
    → Type 0
IsDefinition name value (Ok text) =
    IsNameText name × FitsLimit value × (text ≡ definition_text name value)
IsDefinition name value (Err fault) = IsNoDefinition name value fault

-- a host's room for the text, and how many bytes it is told, before or after a call
pub record TextRoom : Type 0 where
  pub text : List ℕ
  pub size : ℕ

abbrev pub IsTextHanded : Result (List ℕ) DefinitionFault → (old new : TextRoom) → (code : ℕ)
    → Type 0
IsTextHanded (Ok text) old new code =
    (new.text ≡ handed text old.text) × (new.size ≡ length text) × (code ≡ 0)
IsTextHanded (Err fault) old new code = (new ≡ old) × (code ≡ code_of_fault fault)

abbrev pub IsDefinedIn : (name : List ℕ) → DefinedValue → (old new : TextRoom) → (code : ℕ)
    → Type 0
IsDefinedIn name value old new code = (made : Result (List ℕ) DefinitionFault)
    × IsDefinition name value made × IsTextHanded made old new code
