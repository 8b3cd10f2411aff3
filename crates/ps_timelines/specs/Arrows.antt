-- Arrows from lane to lane: what a context does with another.
use Rattle.std.specs.Prelude.{ℕ, ◌+◌, ◌*◌, List, [], ◌++◌, length, nat_lt, codes, if◌then◌else◌}
use Rattle.std.specs.List.{flat_map}
use Rattle.ps_timelines.specs.declared.arrows.Arrow.{Arrow}
use Rattle.ps_timelines.specs.declared.arrows.Relation.{Relation}
use Rattle.ps_timelines.specs.declared.arrows.Relation.TheVariants.{Starts, Joins, Notifies}
use Rattle.ps_timelines.specs.Lanes.{place, place_text}
use Rattle.ps_timelines.specs.Texts.{number_text}

-- its name in the style sheet
abbrev pub relation_word : Relation → List ℕ
relation_word Starts = codes "fork"
relation_word Joins = codes "joined"
relation_word Notifies = codes "notify"

-- what the context does
abbrev pub relation_title : Relation → List ℕ
relation_title Starts = codes "starts a context"
relation_title Joins = codes "joins a context"
relation_title Notifies = codes "notifies a context"

-- where an arrow leaves a lane or comes to it: at the side on which the other lane lies
abbrev pub edge : (lane other : ℕ) → ℕ
edge lane other = if nat_lt lane other then 70 + 48 * lane + 30 else 70 + 48 * lane

unfoldable pub arrow_head : Relation → List ℕ
arrow_head relation = codes "<path class=\"" ++ relation_word relation

abbrev pub step_text : (steps step : ℕ) → List ℕ
step_text steps step = number_text (codes "\" d=\"M") (150 + place steps step) (codes " ")

abbrev pub side_text : (lane other : ℕ) → (behind : List ℕ) → List ℕ
side_text lane other behind = number_text [] (edge lane other) behind

-- straight down or up, behind its step
unfoldable pub shaft_text : (steps : ℕ) → Arrow → List ℕ
shaft_text steps arrow = step_text steps arrow.step
    ++ (side_text arrow.from arrow.to (codes "V")
    ++ side_text arrow.to arrow.from (codes "\"><title>step "))

unfoldable pub arrow_text : (steps : ℕ) → Relation → Arrow → List ℕ
arrow_text steps relation arrow = arrow_head relation ++ (shaft_text steps arrow
    ++ (number_text [] arrow.step (codes ": ") ++ (relation_title relation
    ++ codes "</title></path>\n")))

-- more than 150 of a kind would hide the lanes
unfoldable pub arrows_text : (steps : ℕ) → Relation → List Arrow → List ℕ
arrows_text steps relation arrows = if nat_lt 150 (length arrows) then []
    else flat_map (arrow_text steps relation) arrows

-- what an arrow says
unfoldable pub arrow_key : (x y : ℕ) → Relation → List ℕ
arrow_key x y relation = place_text x y ++ (arrow_head relation
    ++ (codes "\" d=\"M12-9V7\"/><text x=\"34\" y=\"4\">" ++ (relation_title relation
    ++ codes "</text></g>\n")))
