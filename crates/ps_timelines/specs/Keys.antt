-- What the series of the lanes say, and the arrows between them.
use Rattle.std.specs.Prelude.{ℕ, ◌+◌, List, ◌++◌, codes}
use Rattle.ps_timelines.specs.declared.series.Series.{Series}
use Rattle.ps_timelines.specs.declared.series.Series.TheVariants.{Ready, Lock, Condition, Join}
use Rattle.ps_timelines.specs.declared.series.Series.TheVariants.{Steps, Owner, Print, Error}
use Rattle.ps_timelines.specs.declared.arrows.Relation.TheVariants.{Starts, Joins, Notifies}
use Rattle.ps_timelines.specs.Arrows.{arrow_key}
use Rattle.ps_timelines.specs.Lanes.{place_text}
use Rattle.ps_timelines.specs.Series.{series_title, series_word}

-- what a series looks like
abbrev pub sample : Series → List ℕ
sample Ready = codes "M0 0h24"
sample Lock = codes "M0 0h24"
sample Condition = codes "M0 0h24"
sample Join = codes "M0 0h24"
sample Steps = codes "M0-8h24v14h-24z"
sample Owner = codes "M0-2h24v4h-24z"
sample Print = codes "M12 3l4-6h-8z"
sample Error = codes "M4-8l16 16m0-16l-16 16"

unfoldable pub sample_text : Series → List ℕ
sample_text series = codes "<path class=\""
    ++ (series_word series ++ (codes "\" d=\"" ++ sample series))

-- and what it says of a context
unfoldable pub key_text : (x y : ℕ) → Series → List ℕ
key_text x y series = place_text x y ++ (sample_text series ++ (codes "\"/><text x=\"34\" y=\"4\">"
    ++ (series_title series ++ codes "</text></g>\n")))

unfoldable pub row_text : (y : ℕ) → (first second third fourth : Series) → List ℕ
row_text y first second third fourth = key_text 150 y first ++ (key_text 400 y second
    ++ (key_text 650 y third ++ key_text 900 y fourth))

unfoldable pub arrow_row_text : (y : ℕ) → List ℕ
arrow_row_text y = arrow_key 150 y Starts ++ (arrow_key 400 y Joins ++ arrow_key 650 y Notifies)

unfoldable pub legend_text : (height : ℕ) → List ℕ
legend_text height = row_text (height + 138) Steps Ready Lock Condition
    ++ (row_text (height + 162) Join Owner Print Error ++ arrow_row_text (height + 186))
