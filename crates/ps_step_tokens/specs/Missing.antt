-- Names behind // that have no value to be had (PLRM2, 3.11).
use Rattle.std.specs.Prelude.{◌≡◌, ℕ, Option, Some, None, true, List, [], ◌∷◌, slice_get}
use Rattle.ps_language.specs.declared.errors.ErrorName.{ErrorName}
use Rattle.ps_language.specs.declared.errors.ErrorName.TheVariants.{InvalidAccess, Undefined}
use Rattle.ps_language.specs.Readers.{executable_name}
use Rattle.ps_language.specs.StepTokens.{Missing, named}
use Rattle.ps_language.specs.StepValues.{Turn, LookedUp, known, unknown, unreadable, looked_up}
use Rattle.ps_language.specs.StepValues.{errs}
use Rattle.ps_language.specs.Value.{Store}
use Rattle.ps_word.specs.declared.words.Word.{Word}
use Rattle.ps_word.specs.declared.values.Content.TheVariants.{Name}
use Rattle.ps_word.specs.Format.{value_in}
use Rattle.ps_mem.specs.Heap.{Heap}
use Rattle.ps_names.specs.Names.{place_of}
use Rattle.ps_ops_operands.specs.Changes.{values_in}
use Rattle.ps_scan.specs.Shown.{part_of}
use Rattle.ps_ops_state.specs.Lent.{Lent, scene_of}
use Rattle.ps_step_tokens.specs.declared.missing.MissingName.{MissingName}

-- why a look-up gives no value
abbrev pub error_of : LookedUp → Option ErrorName
error_of (known value) = None
error_of unknown = Some Undefined
error_of unreadable = Some InvalidAccess

-- what a text stands for by these dictionaries
abbrev pub look_by : Heap → (names : List (List ℕ)) → (dictionaries : List Word) → Store → List ℕ
    → LookedUp
look_by h names dictionaries s text =
    looked_up (executable_name text) (values_in h names dictionaries) s

-- a name of a text that is missing
abbrev pub missing_of : (text : List ℕ) → MissingName → Missing
missing_of text missing =
    record { text = part_of text missing.span; error = missing.error }

-- it is met, and is the command of its error
abbrev pub missing_turn : ErrorName → List ℕ → Lent → Store → Turn
missing_turn error text l s =
    named (text ∷ []) (scene_of l s) (errs error (executable_name text))

-- the word of a name that was met as a key; there is none of one that was not
abbrev pub IsMetKey : (names : List (List ℕ)) → (text : List ℕ) → Option Word → Type 0
IsMetKey names text (Some w) =
    (number : ℕ) × (value_in w.0 ≡ record { content = Name number; executable = true })
    × (slice_get names number ≡ Some text)
IsMetKey names text None = place_of text names ≡ None
