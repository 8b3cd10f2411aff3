-- Sizes: numbers in decimal, behind which the letter of a unit may stand.
use Rattle.std.specs.Prelude.{◌+◌, ◌*◌, ◌-◌, ◌==◌, ◌&&◌, ◌||◌, ℕ, Bool, false, List, [], ◌∷◌, Option, Some, None, nat_le, option_map, if◌then◌else◌}
use Rattle.std.specs.Char.{is_ascii_digit}

-- what a letter stands for: k, m and g, in any case
abbrev pub unit_of : ℕ → Option ℕ
unit_of letter = if letter == 107 || letter == 75 then Some 1024
    else (if letter == 109 || letter == 77 then Some 1048576
    else (if letter == 103 || letter == 71 then Some 1073741824 else None))

-- so many of its unit
abbrev pub in_units : ℕ → ℕ → Option ℕ
in_units number letter = option_map (λ unit. number * unit) (unit_of letter)

-- a number with one more digit
abbrev pub with_digit : ℕ → ℕ → ℕ
with_digit number digit = number * 10 + (digit - 48)

-- only the last byte may be a unit
abbrev pub ending_in : ℕ → ℕ → List ℕ → Option ℕ
ending_in number letter [] = in_units number letter
ending_in number letter (byte ∷ rest) = None

-- the size of a number with these bytes behind it
abbrev pub size_behind : ℕ → List ℕ → Option ℕ
size_behind number [] = Some number
size_behind number (byte ∷ rest) = if is_ascii_digit byte
    then size_behind (with_digit number byte) rest else ending_in number byte rest

abbrev pub unsigned_size : List ℕ → Option ℕ
unsigned_size [] = None
unsigned_size (byte ∷ rest) = if is_ascii_digit byte then size_behind (byte - 48) rest else None

-- the size that a text tells: digits, perhaps behind a plus sign, and perhaps a unit behind them
abbrev pub size_of : List ℕ → Option ℕ
size_of [] = None
size_of (byte ∷ rest) = if byte == 43 then unsigned_size rest else unsigned_size (byte ∷ rest)

abbrev pub is_within : (least most : ℕ) → Option ℕ → Bool
is_within least most None = false
is_within least most (Some size) = nat_le least size && nat_le size most
