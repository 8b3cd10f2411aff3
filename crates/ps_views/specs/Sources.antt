-- The line of the source in which a place lies, with a mark below it.
use Rattle.std.specs.Prelude.{ℕ, ◌+◌, ◌-◌, Bool, List, [], ◌++◌, length, take, drop, map, min, max}
use Rattle.std.specs.Prelude.{nat_lt, replicate, codes, if◌then◌else◌}
use Rattle.ps_views.specs.declared.bytes.Showing.TheVariants.{Source, Blank}
use Rattle.ps_views.specs.Bytes.{shown_byte}

-- ---- the part that is shown

-- where the part of a line begins that is shown around a place: 80 bytes before the place, but not
-- so late that fewer than 160 bytes are shown of a line that has them
unfoldable pub window_begin : (size at : ℕ) → ℕ
window_begin size at = min (min at size - 80) (size - 160)

-- its bytes
unfoldable pub window_bytes : (line : List ℕ) (at : ℕ) → List ℕ
window_bytes line at = take 160 (drop (window_begin (length line) at) line)

-- where in it the place lies
unfoldable pub window_mark : (line : List ℕ) (at : ℕ) → ℕ
window_mark line at = min at (length line) - window_begin (length line) at

-- whether bytes are cut off before it, and behind it
unfoldable pub is_cut_before : (line : List ℕ) (at : ℕ) → Bool
is_cut_before line at = nat_lt 0 (window_begin (length line) at)

unfoldable pub is_cut_behind : (line : List ℕ) (at : ℕ) → Bool
is_cut_behind line at = nat_lt (window_begin (length line) at + 160) (length line)

-- ---- its two lines

-- what stands for bytes that are cut off
abbrev pub cut_text : Bool → List ℕ
cut_text is_cut = if is_cut then codes ".." else []

-- the part, behind four spaces
abbrev pub part_line : (part : List ℕ) (before behind : Bool) → List ℕ
part_line part before behind = codes "    " ++ (cut_text before ++ (map (shown_byte Source) part
    ++ (cut_text behind ++ codes "\n")))

-- space as wide as what stands before the mark, and then the mark (94 is ^): of so many bytes, but
-- not past the part, and at least of one
abbrev pub mark_line : (part : List ℕ) (mark : ℕ) (before : Bool) (width : ℕ) → List ℕ
mark_line part mark before width = codes "    "
    ++ (map (shown_byte Blank) (cut_text before) ++ (map (shown_byte Blank) (take mark part)
    ++ (replicate (max (min width (length part - mark)) 1) 94 ++ codes "\n")))

-- both
abbrev pub window_text : (part : List ℕ) (mark : ℕ) (before behind : Bool) (width : ℕ) → List ℕ
window_text part mark before behind width =
    part_line part before behind ++ mark_line part mark before width

-- a line, with a mark of so many bytes below it from a place on
unfoldable pub source_text : (line : List ℕ) (at width : ℕ) → List ℕ
source_text line at width =
    window_text (window_bytes line at) (window_mark line at) (is_cut_before line at)
    (is_cut_behind line at) width
