-- Where things stand in the program of a run.
use Rattle.std.specs.Prelude.{ℕ, ◌-◌, Option, Some, None, List, length, take, drop, nat_lt}
use Rattle.std.specs.Prelude.{if◌then◌else◌, option_map}
use Rattle.ps_language.specs.Scan.{scan}
use Rattle.ps_places.specs.declared.origins.Origin.{Origin}
use Rattle.ps_places.specs.declared.positions.Position.{Position}
use Rattle.ps_places.specs.Origins.{object_begin, element_begin}
use Rattle.ps_places.specs.Positions.{position_in}
use Rattle.ps_places.specs.Tokens.{token_begin, end_or}

-- what the file is called, the text of the program, and where the tokens begin that made objects
pub record Chart : Type 0 where
  pub file : List ℕ
  pub program : List ℕ
  pub origins : List Origin

-- the line and the column of a place
abbrev pub position_at : Chart → Option ℕ → Option Position
position_at chart place = option_map (position_in chart.program) place

-- of an element of a procedure, and of a string, by birth numbers
abbrev pub element_position : Chart → (birth index : ℕ) → Option Position
element_position chart birth index =
    position_at chart (element_begin chart.program chart.origins birth index)

abbrev pub object_position : Chart → (birth : ℕ) → Option Position
object_position chart birth = position_at chart (object_begin chart.program chart.origins birth)

-- where the next token of a text begins, if there is one
abbrev pub next_token : List ℕ → (at : ℕ) → Option ℕ
next_token text at =
    if nat_lt (token_begin text at) (length text) then Some (token_begin text at) else None

-- the bytes of the token that begins at a place; the rest of the text, where none can be read
abbrev pub token_bytes : List ℕ → (begin : ℕ) → List ℕ
token_bytes text begin =
    take (end_or (length text) (scan text begin) - begin) (drop begin text)
