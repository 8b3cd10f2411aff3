-- The picture of a run: what each context does in each of its steps.
use Rattle.std.specs.Prelude.{◌≡◌, ℕ, suc, ◌+◌, List, [], ◌∷◌, ◌++◌, Some, length, max, take}
use Rattle.std.specs.Prelude.{slice_get, if◌then◌else◌}
use Rattle.ps_language.specs.Locks.{is_ready}
use Rattle.ps_language.specs.Schedules.{Move}
use Rattle.ps_language.specs.World.{World}
use Rattle.ps_states.specs.declared.moments.StepEnd.{StepEnd}
use Rattle.ps_states.specs.declared.presences.Tie.{Tie}
use Rattle.ps_states.specs.declared.presences.Tie.TheVariants.{Joins, Notifies}
use Rattle.ps_states.specs.Moments.{arrows_in, end_of, error_text, moment_of, outset_of, starts_in}
use Rattle.ps_timelines.specs.declared.arrows.Arrow.{Arrow}
use Rattle.ps_timelines.specs.declared.lanes.Lane.{Lane}
use Rattle.ps_timelines.specs.declared.moments.Moment.{Moment}
use Rattle.ps_timelines.specs.declared.pictures.Timeline.{Timeline}
use Rattle.ps_timelines.specs.Moments.{Label, Show, labels_in}
use Rattle.ps_walks.specs.Walks.{walked, without_lines}

-- what is told of each step, by how many are past, one behind another
unfoldable pub each_step : {A : Type 0} → (told : ℕ → World → Move → List A) → (past : ℕ) → World
    → List Move → List A
each_step told past now [] = []
each_step told past now (move ∷ rest) =
    told past now move ++ each_step told (suc past) (walked now move) rest

-- ---- one step

-- what it comes to
abbrev pub end_in : World → Move → StepEnd
end_in now move = end_of (is_ready (without_lines now) move.context) (outset_of now move.context)
    (walked now move)

-- what a context does in it
abbrev pub moment_in : World → Move → (context : ℕ) → Moment
moment_in now move context = moment_of (end_in now move) (walked now move) context

-- what is told of an error of a context in it
abbrev pub labels_by : Moment → (past : ℕ) → World → (context : ℕ) → List Label
labels_by moment past after context =
    if moment.fails then record { step = past; text = error_text after context } ∷ [] else []

-- the arrows to the context that it makes, and to those that it has to do with
abbrev pub starts_at : (past : ℕ) → World → Move → List Arrow
starts_at past now move = starts_in (past + 1) (outset_of now move.context) (walked now move)

abbrev pub related_at : Tie → (past : ℕ) → World → Move → List Arrow
related_at tie past now move =
    arrows_in tie (past + 1) move.context now (walked now move)

-- ---- all steps

abbrev pub moments_of : World → List Move → (context : ℕ) → List Moment
moments_of start moves context = each_step (λ past now move. moment_in now move context ∷ []) 0
    start moves

abbrev pub labels_of : World → List Move → (context : ℕ) → List Label
labels_of start moves context = each_step
    (λ past now move. labels_by (moment_in now move context) past (walked now move) context) 0 start
    moves

abbrev pub starts_of : World → List Move → List Arrow
starts_of start moves = each_step starts_at 0 start moves

abbrev pub related_of : Tie → World → List Move → List Arrow
related_of tie start moves = each_step (related_at tie) 0 start moves

-- how many contexts were made in any of the worlds
unfoldable pub ever_made : World → List Move → ℕ
ever_made now [] = length now.contexts
ever_made now (move ∷ rest) = max (length now.contexts) (ever_made (walked now move) rest)

-- ---- the picture

-- the lane of a context that did this, and had these errors
pub record IsLane (identifier : ℕ) (moments : List Moment) (errors : List Label) (lane : Lane)
    : Type 0 where
  pub context : lane.context ≡ identifier
  pub intervals : Show lane.intervals moments
  pub labels : labels_in lane.labels.items ≡ take 4 errors

-- the lanes of contexts, by rising identifiers from 1 on
unfoldable pub AreLanes : (moments : ℕ → List Moment) → (labels : ℕ → List Label) → List Lane
    → Type 0
AreLanes moments labels lanes = (place : ℕ) (lane : Lane) → slice_get lanes place ≡ Some lane
    → IsLane (suc place) (moments (suc place)) (labels (suc place)) lane

-- the picture of a run of a file of this name, which ended so: a lane for each context that was
-- ever made
pub record IsTimelineOf (name ending : List ℕ) (start : World) (moves : List Move)
    (told : Timeline) : Type 0 where
  pub file : told.file.now ≡ name
  pub steps : told.steps ≡ length moves
  pub outcome : told.outcome.now ≡ ending
  pub count : length told.lanes.now ≡ ever_made start moves
  pub lanes : AreLanes (moments_of start moves) (labels_of start moves) told.lanes.now
  pub forks : told.forks.now ≡ starts_of start moves
  pub joins : told.joins.now ≡ related_of Joins start moves
  pub notifies : told.notifies.now ≡ related_of Notifies start moves
