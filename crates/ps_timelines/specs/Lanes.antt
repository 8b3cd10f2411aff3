-- The lane of a context (Scalable Vector Graphics 1.1, 5.2 and 7.6).
use Rattle.std.specs.Prelude.{ℕ, ◌+◌, ◌-◌, ◌*◌, ◌/◌, List, [], ◌∷◌, ◌++◌, max, min, take, nat_lt}
use Rattle.std.specs.Prelude.{codes, if◌then◌else◌}
use Rattle.std.specs.List.{flat_map, sum_by}
use Rattle.ps_timelines.specs.declared.columns.Interval.{Interval}
use Rattle.ps_timelines.specs.declared.levels.LaneIntervals.{LaneIntervals}
use Rattle.ps_timelines.specs.declared.series.Series.{Series}
use Rattle.ps_timelines.specs.declared.series.Series.TheVariants.{Ready, Lock, Condition, Join}
use Rattle.ps_timelines.specs.declared.series.Series.TheVariants.{Steps, Owner, Print, Error}
use Rattle.ps_timelines.specs.declared.lanes.ErrorLabel.{ErrorLabel}
use Rattle.ps_timelines.specs.declared.lanes.Lane.{Lane}
use Rattle.ps_timelines.specs.Texts.{escaped, number_text}
use Rattle.ps_timelines.specs.Levels.{longest_shares, series_levels, intervals_of}
use Rattle.ps_timelines.specs.Series.{path_text}

-- where a step begins, from the left edge
abbrev pub place : (steps step : ℕ) → ℕ
place steps step = step * 1000 / max steps 1

-- a group that is moved to a place
abbrev pub place_text : (x y : ℕ) → List ℕ
place_text x y = number_text (codes "<g transform=\"translate(") x (codes " ")
    ++ number_text [] y (codes ")\">\n")

-- ---- who it is

abbrev pub interval_length : Interval → ℕ
interval_length interval = interval.to - interval.from

-- how many steps intervals have, but at most as many as there are
unfoldable pub count : (steps : ℕ) → List Interval → ℕ
count steps intervals = min (sum_by interval_length intervals) steps

abbrev pub name_text : (context : ℕ) → List ℕ
name_text context = number_text (codes "<text x=\"-10\" y=\"14\" class=\"name\">context ") context
    (codes "</text>\n")

abbrev pub count_text : (count : ℕ) → List ℕ
count_text count = number_text (codes "<text x=\"-10\" y=\"28\" class=\"count\">") count
    (codes " steps</text>\n")

unfoldable pub head_text : (y : ℕ) → Lane → (steps : ℕ) → List ℕ
head_text y lane steps = place_text 150 y
    ++ (name_text lane.context ++ count_text (count steps lane.intervals.steps.items))

-- ---- the errors that are told by their text

-- on the side where there is more room
abbrev pub label_begin : (x : ℕ) → List ℕ
label_begin x = if nat_lt x 667
    then number_text (codes "<text y=\"20\" x=\"") (x + 14) (codes "\" class=\"label\">")
    else number_text (codes "<text y=\"20\" x=\"") (x - 14) (codes "\" class=\"label end\">")

unfoldable pub label_text : (steps : ℕ) → ErrorLabel → List ℕ
label_text steps label = label_begin (place steps label.step)
    ++ (number_text (codes "<title>step ") (label.step + 1) (codes "</title>")
    ++ (escaped label.text.items ++ codes "</text>\n"))

-- ---- the lane

-- each series in the order in which they are drawn
abbrev pub all_series : List Series
all_series = Ready ∷ Lock ∷ Condition ∷ Join ∷ Steps ∷ Owner ∷ Print ∷ Error ∷ []

unfoldable pub series_text : (steps : ℕ) → LaneIntervals → (longests : List ℕ) → Series → List ℕ
series_text steps drawn longests series =
    path_text series (series_levels series steps (intervals_of drawn series) longests)

unfoldable pub all_series_text : (steps : ℕ) → LaneIntervals → List ℕ
all_series_text steps drawn =
    flat_map (series_text steps drawn (longest_shares steps drawn)) all_series

-- of the errors the first four are told
unfoldable pub lane_text : (steps y : ℕ) → Lane → List ℕ
lane_text steps y lane = head_text y lane steps ++ (all_series_text steps lane.intervals
    ++ (flat_map (label_text steps) (take 4 lane.labels.items) ++ codes "</g>\n"))
