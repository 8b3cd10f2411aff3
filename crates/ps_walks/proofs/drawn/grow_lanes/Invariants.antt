use Rattle.std.proofs.Common.{◌≡◌, ◌≤◌, ◌-◌, ℕ, suc, Some, length, max}
use Rattle.std.specs.Prelude.{◌⊎◌, slice_get}
use Rattle.ps_timelines.specs.declared.lanes.Lane.{Lane}
use Rattle.ps_walks.specs.Drawings.{IsFresh}
use Rattle.ps_walks.proofs.drawn.grow_lanes.Given as goal

-- those that came are fresh
abbrev pub invariant-grow : goal.invariant-grow
invariant-grow l = record {
  within : length l.lanes.items ≤ max (length l.initial.lanes.items) l.made;
  more : length l.initial.lanes.items ≤ length l.lanes.items;
  each : (place : ℕ) (lane : Lane) → slice_get l.lanes.items place ≡ Some lane
      → (slice_get l.initial.lanes.items place ≡ Some lane)
      ⊎ ((length l.initial.lanes.items ≤ place) × IsFresh (suc place) lane);
}

abbrev pub decreases-grow : goal.decreases-grow
decreases-grow l = l.made - length l.lanes.items
