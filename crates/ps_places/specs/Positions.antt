-- Lines and columns of a text, counted from 1.
use Rattle.std.specs.Prelude.{ℕ, zero, suc, ◌+◌, ◌-◌, ◌==◌, ◌&&◌, ◌||◌, Bool, not, List, length}
use Rattle.std.specs.Prelude.{drop, min, slice_index, if◌then◌else◌}
use Rattle.ps_language.specs.Scan.{leading}
use Rattle.ps_scan.specs.declared.tokens.Span.{Span}
use Rattle.ps_places.specs.declared.positions.Position.{Position}

-- whether the last byte of a line's end stands here: a line feed (10), or a carriage return (13)
-- with no line feed behind it
abbrev pub ends_line : List ℕ → ℕ → Bool
ends_line text at = (slice_index text at == 10)
    || ((slice_index text at == 13) && not (slice_index text (at + 1) == 10))

-- how many line ends lie before a place
abbrev pub line_ends : List ℕ → ℕ → ℕ
line_ends text zero = 0
line_ends text (suc at) =
    if ends_line text at then line_ends text at + 1 else line_ends text at

-- where the line of a place begins: behind the last line end before it
abbrev pub line_begin : List ℕ → ℕ → ℕ
line_begin text zero = 0
line_begin text (suc at) = if ends_line text at then at + 1 else line_begin text at

-- the line is the number of line ends before it, the column how far it lies behind the last
unfoldable pub position_in : List ℕ → ℕ → Position
position_in text offset =
    let at : ℕ = min offset (length text) in
    record { line = line_ends text at + 1; column = at - line_begin text at + 1 }

-- a byte of a line, which is none of its end
abbrev pub is_in_line : ℕ → Bool
is_in_line b = not ((b == 10) || (b == 13))

-- where the bytes of a line end, from a place in it on
unfoldable pub line_end : List ℕ → ℕ → ℕ
line_end text at = at + length (leading is_in_line (drop at text))

-- the line of a place, without its end
unfoldable pub line_in : List ℕ → ℕ → Span
line_in text offset =
    let start : ℕ = line_begin text (min offset (length text)) in
    record { start = start; end = line_end text start }
