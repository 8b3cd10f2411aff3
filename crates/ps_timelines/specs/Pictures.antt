-- The picture of a run (Scalable Vector Graphics 1.1, 5.1, 5.4 and 6.6).
use Rattle.std.specs.Prelude.{ℕ, ◌+◌, ◌*◌, List, [], ◌∷◌, ◌++◌, length, nat_lt, nat_le}
use Rattle.std.specs.Prelude.{codes, if◌then◌else◌}
use Rattle.std.specs.List.{flat_map, range_with_len}
use Rattle.ps_timelines.specs.declared.lanes.Lane.{Lane}
use Rattle.ps_timelines.specs.declared.pictures.Timeline.{Timeline}
use Rattle.ps_timelines.specs.declared.arrows.Relation.TheVariants.{Starts, Joins, Notifies}
use Rattle.ps_timelines.specs.Arrows.{arrows_text}
use Rattle.ps_timelines.specs.Texts.{escaped, number_text}
use Rattle.ps_timelines.specs.Lanes.{lane_text, place, place_text}
use Rattle.ps_timelines.specs.Keys.{legend_text}

unfoldable pub style_text : List ℕ
style_text = codes "<style>text{fill:#222;font:13px sans-serif}path{fill:none}"
    ++ (codes ".title{font-size:17px;font-weight:bold}.name{text-anchor:end;font-weight:bold}"
    ++ (codes ".count{text-anchor:end;font-size:11px}.tick{text-anchor:middle}.grid{stroke:#ddd}"
    ++ (codes ".steps{fill:#0072B2}.owner{fill:#000}.print{fill:#333}"
    ++ (codes ".ready{stroke:#56B4E9;stroke-width:2}.lock{stroke:#E69F00;stroke-width:9}"
    ++ (codes ".condition{stroke:#CC79A7;stroke-width:9;stroke-dasharray:2 2}"
    ++ (codes ".join{stroke:#999;stroke-width:2;stroke-dasharray:6 4}"
    ++ (codes ".error{stroke:#D55E00;stroke-width:4}.label{fill:#D55E00;font-weight:bold}"
    ++ (codes ".end{text-anchor:end}.fork{stroke:#333;stroke-width:1.5;marker-end:url(#k)}"
    ++ (codes ".joined{stroke:#333;stroke-width:1.5;stroke-dasharray:4 3;marker-end:url(#k)}"
    ++ (codes ".notify{stroke:#CC79A7;stroke-width:1.5;marker-end:url(#n)}"
    ++ codes ".head{fill:#333}.notified{fill:#CC79A7}</style>\n"))))))))))

-- a head of an arrow, whose end lies at the arrow's end
abbrev pub head_begin : List ℕ
head_begin = codes "\" markerUnits=\"userSpaceOnUse\" markerWidth=\"9\" markerHeight=\"9\""
    ++ codes " refX=\"8\" refY=\"4\" orient=\"auto\"><path class=\""

abbrev pub head_end : List ℕ
head_end = codes "\" d=\"M0 0l8 4l-8 4z\"/></marker>"

unfoldable pub heads_text : List ℕ
heads_text = codes "<defs><marker id=\"k" ++ (head_begin ++ (codes "head" ++ (head_end
    ++ (codes "\n<marker id=\"n" ++ (head_begin ++ (codes "notified" ++ (head_end
    ++ codes "</defs>\n")))))))

-- ---- the steps

-- 1, 2 and 5, and these times powers of ten
abbrev pub units : List ℕ
units = 1 ∷ 2 ∷ 5 ∷ 10 ∷ 20 ∷ 50 ∷ 100 ∷ 200 ∷ 500 ∷ 1000 ∷ 2000 ∷ 5000 ∷ 10000 ∷ 20000 ∷ 50000
    ∷ 100000 ∷ 200000 ∷ 500000 ∷ 1000000 ∷ 2000000 ∷ 5000000 ∷ 10000000 ∷ 20000000 ∷ 50000000
    ∷ 100000000 ∷ 200000000 ∷ 500000000 ∷ []

-- the first of which at most ten fit the run
unfoldable pub first_unit : (steps : ℕ) → List ℕ → ℕ
first_unit steps [] = 0
first_unit steps (unit ∷ units) = if nat_lt steps (11 * unit) then unit else first_unit steps units

-- what stands between two ticks
unfoldable pub unit : (steps : ℕ) → ℕ
unit steps = first_unit steps units

-- a tick through all lanes, which are so high together, and its number below them
unfoldable pub tick_text : (steps height step : ℕ) → List ℕ
tick_text steps height step = place_text (150 + place steps step) 64
    ++ (number_text (codes "<path class=\"grid\" d=\"M0 0V") (height + 6) (codes "\"/>\n")
    ++ (number_text (codes "<text class=\"tick\" y=\"") (height + 22) (codes "\">")
    ++ number_text [] step (codes "</text></g>\n")))

-- those that don't lie behind the run
unfoldable pub tick_at : (steps height index : ℕ) → List ℕ
tick_at steps height index = if nat_le (index * unit steps) steps
    then tick_text steps height (index * unit steps) else []

unfoldable pub ticks_text : (steps height : ℕ) → List ℕ
ticks_text steps height = flat_map (tick_at steps height) (range_with_len 0 11)

unfoldable pub axis_text : (height : ℕ) → List ℕ
axis_text height = number_text (codes "<text class=\"tick\" x=\"650\" y=\"") (height + 106)
    (codes "\">steps</text>\n")

-- ---- the lanes

-- one below another
unfoldable pub lanes_text : (steps y : ℕ) → List Lane → List ℕ
lanes_text steps y [] = []
lanes_text steps y (lane ∷ lanes) = lane_text steps y lane ++ lanes_text steps (y + 48) lanes

-- ---- all of it

-- FILE: N steps, N contexts, OUTCOME
unfoldable pub title_text : Timeline → List ℕ
title_text told = escaped told.file.now ++ (number_text (codes ": ") told.steps (codes " steps, ")
    ++ (number_text [] (length told.lanes.now) (codes " contexts, ") ++ escaped told.outcome.now))

unfoldable pub size_text : (height : ℕ) → List ℕ
size_text height = number_text
    (codes "<svg xmlns=\"http://www.w3.org/2000/svg\" width=\"1180\" height=\"") (height + 210)
    (codes "\" viewBox=\"0 0 1180 ") ++ number_text [] (height + 210) (codes "\" role=\"img\">\n")

unfoldable pub titled_text : (before : List ℕ) → Timeline → (behind : List ℕ) → List ℕ
titled_text before told behind = before ++ (title_text told ++ behind)

-- the title is read out where the picture isn't seen, and stands above the lanes
unfoldable pub head_text : Timeline → (height : ℕ) → List ℕ
head_text told height = size_text height
    ++ (titled_text (codes "<title>") told (codes "</title>\n") ++ ((style_text ++ heads_text)
    ++ (codes "<rect width=\"100%\" height=\"100%\" fill=\"#fff\"/>\n"
    ++ titled_text (codes "<text x=\"150\" y=\"36\" class=\"title\">") told (codes "</text>\n"))))

-- the ticks, and what they are
unfoldable pub scale_text : (steps height : ℕ) → List ℕ
scale_text steps height = ticks_text steps height ++ axis_text height

-- those of all kinds
unfoldable pub all_arrows_text : Timeline → List ℕ
all_arrows_text told = arrows_text told.steps Starts told.forks.now
    ++ (arrows_text told.steps Joins told.joins.now
    ++ arrows_text told.steps Notifies told.notifies.now)

-- a lane is 30 high, and each next one begins 48 below
abbrev pub lanes_height : Timeline → ℕ
lanes_height told = 48 * length told.lanes.now

unfoldable pub picture : Timeline → List ℕ
picture told = head_text told (lanes_height told) ++ (scale_text told.steps (lanes_height told)
    ++ (lanes_text told.steps 70 told.lanes.now ++ (all_arrows_text told
    ++ (legend_text (lanes_height told) ++ codes "</svg>\n"))))
