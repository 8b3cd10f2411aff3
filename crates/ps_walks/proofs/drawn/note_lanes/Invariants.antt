use Rattle.std.proofs.Common.{◌≡◌, ◌≤◌, ◌<◌, ◌++◌, ◌∷◌, [], List, ℕ, suc, Some, length}
use Rattle.std.specs.Prelude.{slice_get}
use Rattle.ps_language.specs.World.{World}
use Rattle.ps_ctx_table.specs.Desks.{IsWorld}
use Rattle.ps_ctx.specs.Calls.{over_of}
use Rattle.ps_states.specs.Moments.{moment_of}
use Rattle.ps_timelines.specs.declared.lanes.Lane.{Lane}
use Rattle.ps_timelines.specs.declared.moments.Moment.{Moment}
use Rattle.ps_timelines.specs.Moments.{Label}
use Rattle.ps_walks.specs.Timelines.{AreLanes, IsLane, labels_by}
use Rattle.ps_walks.proofs.drawn.note_lanes.Given as goal

-- it is noted in those so far, and the others are as they were
abbrev pub invariant-loop-place : goal.invariant-loop-place
invariant-loop-place g l = record {
  heap : g.M.Memory.heap l.runtime.memory ≡ g.M.Memory.heap l.fn.runtime.memory;
  grants : g.M.Memory.grants l.runtime.memory ≡ g.M.Memory.grants l.fn.runtime.memory;
  shared : l.runtime.shared ≡ l.fn.runtime.shared;
  count : length l.lanes.items ≡ length l.initial.lanes.items;
  done : (w : World) (moments : ℕ → List Moment) (labels : ℕ → List Label)
      → IsWorld (over_of g.M.Memory.heap g.M.Memory.grants l.fn.runtime l.crowd.contexts.now) w
      → ((context : ℕ) → length (moments context) ≡ l.beat.step)
      → AreLanes moments labels l.initial.lanes.items
      → (place : ℕ) (lane : Lane) → place < l.place → slice_get l.lanes.items place ≡ Some lane
      → IsLane (suc place) (moments (suc place) ++ moment_of l.beat.end w (suc place) ∷ [])
      (labels (suc place) ++ labels_by (moment_of l.beat.end w (suc place)) l.beat.step w (suc place))
      lane;
  rest : (place : ℕ) → l.place ≤ place
      → slice_get l.lanes.items place ≡ slice_get l.initial.lanes.items place;
}
