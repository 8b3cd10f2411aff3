-- What is drawn of a run while it is made again.
use Rattle.std.specs.Prelude.{◌≡◌, ℕ, List, [], length, replicate}
use Rattle.ps_language.specs.Schedules.{Move}
use Rattle.ps_language.specs.World.{World}
use Rattle.ps_states.specs.declared.presences.Tie.TheVariants.{Joins, Notifies}
use Rattle.ps_states.specs.Moments.{ArePresences}
use Rattle.ps_timelines.specs.declared.lanes.Lane.{Lane}
use Rattle.ps_timelines.specs.Moments.{Show, away, labels_in}
use Rattle.ps_walks.specs.declared.timelines.Drawing.{Drawing}
use Rattle.ps_walks.specs.Timelines.{AreLanes, ever_made, labels_of, moments_of, related_of}
use Rattle.ps_walks.specs.Timelines.{starts_of}
use Rattle.ps_walks.specs.Walks.{walked_all}

-- the picture of the moves so far, and how the contexts stand behind them
pub record IsDrawn (start : World) (done : List Move) (drawing : Drawing) : Type 0 where
  pub count : length drawing.lanes.items ≡ ever_made start done
  pub lanes : AreLanes (moments_of start done) (labels_of start done) drawing.lanes.items
  pub seen : ArePresences drawing.seen.items (walked_all start done)
  pub forks : drawing.forks.items ≡ starts_of start done
  pub joins : drawing.joins.items ≡ related_of Joins start done
  pub notifies : drawing.notifies.items ≡ related_of Notifies start done

-- the lane of a context that did nothing yet
pub record IsFresh (identifier : ℕ) (lane : Lane) : Type 0 where
  pub context : lane.context ≡ identifier
  pub intervals : (steps : ℕ) → Show lane.intervals (replicate steps away)
  pub labels : labels_in lane.labels.items ≡ []
