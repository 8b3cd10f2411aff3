-- The words of a line that is typed.
use Rattle.std.specs.Prelude.{ℕ, ◌+◌, ◌*◌, ◌-◌, ◌==◌, Bool, Option, Some, None, List, []}
use Rattle.std.specs.Prelude.{◌∷◌, min, take, drop, length, position, option_map, if◌then◌else◌}
use Rattle.std.specs.Char.{is_ascii_digit, is_ascii_whitespace}
use Rattle.std.specs.List.{prefix_len, suffix_len}
use Rattle.std.specs.Option.{option_and_then}
use Rattle.ps_places.specs.declared.positions.Position.{Position}

-- ---- blanks

-- without the blanks before it, and those behind it
abbrev pub unled : List ℕ → List ℕ
unled text = drop (prefix_len is_ascii_whitespace text) text

abbrev pub untailed : List ℕ → List ℕ
untailed text = take (length text - suffix_len is_ascii_whitespace text) text

unfoldable pub trimmed : List ℕ → List ℕ
trimmed text = untailed (unled text)

-- ---- numbers

-- no number is larger than those of 64 bits
abbrev pub bounded : ℕ → ℕ
bounded number = min number 18446744073709551615

abbrev pub with_digit : (number digit : ℕ) → ℕ
with_digit number digit = number * 10 + (digit - 48)

-- a number with these digits behind it
abbrev pub number_behind : (number : ℕ) → List ℕ → Option ℕ
number_behind number [] = Some number
number_behind number (byte ∷ rest) =
    if is_ascii_digit byte then number_behind (with_digit number byte) rest else None

-- the number that a text of digits tells
abbrev pub digits_in : List ℕ → Option ℕ
digits_in [] = None
digits_in (byte ∷ rest) = number_behind 0 (byte ∷ rest)

unfoldable pub number_in : List ℕ → Option ℕ
number_in text = option_map bounded (digits_in text)

-- ---- places

abbrev pub is_colon : ℕ → Bool
is_colon byte = byte == 58

-- the line by what stands before the colon, and the column by what stands behind it
abbrev pub place_of : (line column : Option ℕ) → Option Position
place_of (Some line) (Some column) = Some (record { line = line; column = column })
place_of line column = None

abbrev pub place_by : (text : List ℕ) → (colon : ℕ) → Option Position
place_by text colon =
    place_of (number_in (take colon text)) (number_in (drop (colon + 1) text))

-- the place that LINE:COLUMN tells
unfoldable pub position_in : List ℕ → Option Position
position_in text = option_and_then (place_by text) (position is_colon text)
