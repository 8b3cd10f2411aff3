-- Names of tokens, by what is done with them (PLRM2, 3.5, 3.11).
use Rattle.std.specs.Prelude.{◌≡◌, ℕ, Bool, true, false, List}
use Rattle.ps_language.specs.StepValues.{Turn, after_look_up, done, looked_up}
use Rattle.ps_language.specs.Token.{Token, literal_name_token, executable_name_token}
use Rattle.ps_language.specs.Token.{immediate_name_token}
use Rattle.ps_language.specs.Value.{name_value, Value, Store}
use Rattle.ps_word.specs.declared.words.Word.{Word}
use Rattle.ps_word.specs.declared.values.Content.TheVariants.{Name}
use Rattle.ps_word.specs.Format.{value_in}
use Rattle.ps_ops_state.specs.Acts.{Asked}
use Rattle.ps_ops_state.specs.Lent.{Lent, scene_of, around_of}
use Rattle.ps_step_outcome.specs.Turns.{none_asked}
use Rattle.ps_step_execute.specs.Values.{meaning, pushed_turn, executed_turn, Asks, executed_asks}
use Rattle.ps_step_tokens.specs.declared.names.NameKind.{NameKind}
use Rattle.ps_step_tokens.specs.declared.names.NameKind.TheVariants.{Literal, Executable, Immediate}
use Rattle.ps_step_tokens.specs.Tokens.{replaced_asks}

-- its token
abbrev pub name_token : NameKind → List ℕ → Token
name_token Literal text = literal_name_token text
name_token Executable text = executable_name_token text
name_token Immediate text = immediate_name_token text

-- whether its word is executable
abbrev pub is_executed : NameKind → Bool
is_executed Literal = false
is_executed Executable = true
is_executed Immediate = true

-- its value
abbrev pub name_in : NameKind → List ℕ → Value
name_in kind text = record { what = name_value text; executable = is_executed kind }

-- the word of a name that was met
abbrev pub IsName : (executable : Bool) → Word → Type 0
IsName executable word =
    (number : ℕ) × (value_in word.0 ≡ record { content = Name number; executable = executable })

-- what is done once it is met
abbrev pub met_turn : NameKind → Word → Lent → Store → Turn
met_turn Literal word l s = pushed_turn word word l s
met_turn Executable word l s = executed_turn word word l s
met_turn Immediate word l s =
    after_look_up (meaning l word) (scene_of l s)
    (looked_up (meaning l word) (scene_of l s).dictionaries s)
    (λ found. done (meaning l word) found (around_of l) (scene_of l s))

-- what is asked for beside
abbrev pub met_asks : Asks → NameKind → Word → Lent → Store → Asked
met_asks asks Literal word l s = none_asked
met_asks asks Executable word l s = executed_asks asks word l s
met_asks asks Immediate word l s =
    replaced_asks asks (looked_up (meaning l word) (scene_of l s).dictionaries s) (around_of l)
    (scene_of l s)
