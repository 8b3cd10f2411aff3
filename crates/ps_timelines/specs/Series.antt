-- What is drawn in a lane, as paths (Scalable Vector Graphics 1.1, 8.3): a lane is 1,000 wide and
-- 30 high.
use Rattle.std.specs.Prelude.{ℕ, zero, suc, ◌+◌, ◌-◌, ◌*◌, ◌/◌, ◌==◌, List, [], ◌∷◌, ◌++◌}
use Rattle.std.specs.Prelude.{length, slice_index, codes, if◌then◌else◌}
use Rattle.std.specs.List.{flat_map, list_all, range_with_len}
use Rattle.std.specs.Fmt.{decimal}
use Rattle.ps_timelines.specs.declared.series.Series.{Series}
use Rattle.ps_timelines.specs.declared.series.Series.TheVariants.{Ready, Lock, Condition, Join}
use Rattle.ps_timelines.specs.declared.series.Series.TheVariants.{Steps, Owner, Print, Error}

-- its name in the style sheet
abbrev pub series_word : Series → List ℕ
series_word Ready = codes "ready"
series_word Lock = codes "lock"
series_word Condition = codes "condition"
series_word Join = codes "join"
series_word Steps = codes "steps"
series_word Owner = codes "owner"
series_word Print = codes "print"
series_word Error = codes "error"

-- what it says of a context
abbrev pub series_title : Series → List ℕ
series_title Ready = codes "ready"
series_title Lock = codes "waits for a lock"
series_title Condition = codes "waits for a condition"
series_title Join = codes "waits to join"
series_title Steps = codes "steps (height: share)"
series_title Owner = codes "has a lock"
series_title Print = codes "prints"
series_title Error = codes "error"

-- ---- what is drawn where the level of a series becomes another

-- an outline of bars goes across, and up or down
abbrev pub outline_text : (base level x : ℕ) → List ℕ
outline_text base level x = codes "H" ++ (decimal x ++ (codes "V" ++ decimal (base - level)))

-- a line begins, or goes on to here
abbrev pub line_text : (level x : ℕ) → List ℕ
line_text zero x = codes "H" ++ decimal x
line_text (suc level) x = codes "M" ++ (decimal x ++ codes " 15")

-- a shape stands where columns begin that have it
abbrev pub shape_text : (shape : List ℕ) (level x : ℕ) → List ℕ
shape_text shape zero x = []
shape_text shape (suc level) x = codes "M" ++ (decimal x ++ shape)

abbrev pub stroke_text : Series → (level x : ℕ) → List ℕ
stroke_text Ready level x = line_text level x
stroke_text Lock level x = line_text level x
stroke_text Condition level x = line_text level x
stroke_text Join level x = line_text level x
stroke_text Steps level x = outline_text 30 level x
stroke_text Owner level x = outline_text 36 level x
stroke_text Print level x = shape_text (codes " 0l4-6h-8z") level x
stroke_text Error level x = shape_text (codes " 15m-8-8l16 16m0-16l-16 16") level x

-- an outline begins on the left, on what its bars stand on
abbrev pub path_begin : Series → List ℕ
path_begin Steps = codes "M0 30"
path_begin Owner = codes "M0 36"
path_begin series = []

-- ---- all columns

-- nothing is drawn between columns of one level
unfoldable pub edge_text : Series → (before level x : ℕ) → List ℕ
edge_text series before level x = if before == level then [] else stroke_text series level x

-- at the left edge of a column, and at the right edge of the last; behind it the level is 0
unfoldable pub column_text : Series → (levels : List ℕ) (column : ℕ) → List ℕ
column_text series levels column = edge_text series (slice_index (0 ∷ levels) column)
    (slice_index levels column) (column * 1000 / length levels)

unfoldable pub edges_text : Series → (levels : List ℕ) → List ℕ
edges_text series levels =
    flat_map (column_text series levels) (range_with_len 0 (length levels + 1))

abbrev pub path_head : Series → List ℕ
path_head series = codes "<path class=\""
    ++ (series_word series ++ (codes "\" d=\"" ++ path_begin series))

abbrev pub path_tail : Series → List ℕ
path_tail series = codes "\"><title>" ++ (series_title series ++ codes "</title></path>\n")

-- a series that no column has is left out
unfoldable pub path_text : Series → (levels : List ℕ) → List ℕ
path_text series levels = if list_all (λ level. level == 0) levels then []
    else path_head series ++ (edges_text series levels ++ path_tail series)
