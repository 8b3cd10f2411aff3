-- The line of an error by its parts (PLRM2, 3.10).
use Rattle.std.specs.Prelude.{◌≡◌, ℕ, ◌<◌, ◌≤◌, ◌++◌, List, Option, Result, OnOk, OnErr, codes}
use Rattle.std.specs.Prelude.{length}
use Rattle.std.specs.Option.{option_map_or}
use Rattle.ps_language.specs.Texts.{no_text, plain_text}
use Rattle.ps_language.specs.Value.{Value, Store}

-- the text of a value, or of none
abbrev pub text_or_none : Store → Option Value → List ℕ
text_or_none store value = option_map_or (plain_text store) value no_text

-- by what stands under the keys of the error's name and of its command
abbrev pub error_line_by : Store → (name command : Option Value) → List ℕ
error_line_by store name command =
    codes "%%[ Error: " ++ text_or_none store name
    ++ codes "; OffendingCommand: " ++ text_or_none store command ++ codes " ]%%\n"

-- A text came behind the bytes of a list; or there was no room for it, and the bytes are still in
-- front. had, has: the capacities of the list
pub record Appends {E : Type 0} (result : Result Unit E) (text old new : List ℕ) (had has : ℕ)
    : Type 0 where
  pub ok : OnOk result (new ≡ old ++ text)
  pub full : OnErr result (had < length (old ++ text))
  pub capacity : had ≤ has
