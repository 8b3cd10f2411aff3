-- What a context does in each step of a run, and which steps are marked in its lane.
use Rattle.std.specs.Prelude.{◌≡◌, ℕ, suc, ◌==◌, Bool, true, false, List, [], ◌∷◌, map}
use Rattle.std.specs.Prelude.{if◌then◌else◌}
use Rattle.ps_timelines.specs.declared.columns.Interval.{Interval}
use Rattle.ps_timelines.specs.declared.lanes.ErrorLabel.{ErrorLabel}
use Rattle.ps_timelines.specs.declared.levels.LaneIntervals.{LaneIntervals}
use Rattle.ps_timelines.specs.declared.moments.Moment.{Moment}
use Rattle.ps_timelines.specs.declared.moments.State.{State}
use Rattle.ps_timelines.specs.declared.moments.State.TheVariants as state
use Rattle.ps_timelines.specs.declared.series.Series.{Series}
use Rattle.ps_timelines.specs.declared.series.Series.TheVariants.{Ready, Lock, Condition, Join}
use Rattle.ps_timelines.specs.declared.series.Series.TheVariants.{Steps, Owner, Print, Error}
use Rattle.ps_timelines.specs.Levels.{intervals_of}

-- each state has a series of its own, but none is drawn of a context that is away
abbrev pub is_drawn : Series → State → Bool
is_drawn Ready state.Ready = true
is_drawn Lock state.Lock = true
is_drawn Condition state.Condition = true
is_drawn Join state.Join = true
is_drawn Steps state.Steps = true
is_drawn series other = false

-- whether a step is marked in a series
abbrev pub is_marked : Series → Moment → Bool
is_marked Owner moment = moment.owner
is_marked Print moment = moment.prints
is_marked Error moment = moment.fails
is_marked series moment = is_drawn series moment.state

-- one step
abbrev pub single : (step : ℕ) → Interval
single step = record { from = step; to = suc step }

-- a step before stretches: it lengthens the first of them, where that begins behind it
abbrev pub before : (step : ℕ) → List Interval → List Interval
before step [] = single step ∷ []
before step (next ∷ rest) = if next.from == suc step
    then record { from = step; to = next.to } ∷ rest else single step ∷ next ∷ rest

-- the longest stretches of marked steps, the first of which has this number
unfoldable pub stretches : (from : ℕ) → (marks : List Bool) → List Interval
stretches from [] = []
stretches from (false ∷ rest) = stretches (suc from) rest
stretches from (true ∷ rest) = before from (stretches (suc from) rest)

-- the stretches of a series, from the begin of the run on
abbrev pub stretches_of : List Moment → Series → List Interval
stretches_of moments series = stretches 0 (map (is_marked series) moments)

-- intervals that show what a context did so far
unfoldable pub Show : LaneIntervals → List Moment → Type 0
Show drawn moments = (series : Series) → intervals_of drawn series ≡ stretches_of moments series

-- a moment in which nothing is marked
abbrev pub away : Moment
away = record { state = state.Away; owner = false; prints = false; fails = false }

-- ---- errors

-- a step that failed, by how many come before it, and what is told of it
pub record Label : Type 0 where
  pub step : ℕ
  pub text : List ℕ

abbrev pub label_of : ErrorLabel → Label
label_of label = record { step = label.step; text = label.text.items }

abbrev pub labels_in : List ErrorLabel → List Label
labels_in labels = map label_of labels
