-- Texts of values in lines of what is told of a run.
use Rattle.std.specs.Prelude.{ℕ, ◌-◌, Option, Some, None, List, ◌++◌, [], map, length, take}
use Rattle.std.specs.Prelude.{nat_lt, replicate, codes, if◌then◌else◌}
use Rattle.ps_places.specs.declared.positions.Position.{Position}
use Rattle.ps_views.specs.declared.bytes.Showing.TheVariants.{Line}
use Rattle.ps_views.specs.Bytes.{shown_byte}
use Rattle.ps_views.specs.Places.{position_text}

-- what a program wrote, in one line
abbrev pub line_text : List ℕ → List ℕ
line_text bytes = map (shown_byte Line) bytes

-- the same in at most so many bytes: the last two of a longer one are dots
abbrev pub cut_line : (most : ℕ) → List ℕ → List ℕ
cut_line most bytes = if nat_lt most (length bytes)
    then line_text (take (most - 2) bytes) ++ codes ".." else line_text bytes

-- behind a space, where there is one
abbrev pub label_text : Option (List ℕ) → List ℕ
label_text None = []
label_text (Some label) = codes " " ++ line_text label

-- where it stands, as far as that is known
abbrev pub at_text : (file : List ℕ) → Option Position → List ℕ
at_text file None = []
at_text file (Some position) = codes " at " ++ position_text file position

-- with spaces before it, and behind it, up to a width (32 is the space)
abbrev pub at_right : (width : ℕ) → List ℕ → List ℕ
at_right width text = replicate (width - length text) 32 ++ text

abbrev pub at_left : (width : ℕ) → List ℕ → List ℕ
at_left width text = text ++ replicate (width - length text) 32
