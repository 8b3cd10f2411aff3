use Rattle.std.proofs.Common.{◌≡◌, ◌≤◌, ◌++◌, take, length, vec_capacity}
use Rattle.std.specs.List.{flat_map}
use Rattle.ps_views.specs.Places.{caller_text}
use Rattle.ps_views.proofs.places.append_each.Given as goal

-- the lines so far came behind what stood before
abbrev pub invariant-loop-caller : goal.invariant-loop-caller
invariant-loop-caller l = record {
  is : l.to.items ≡ l.initial.to.items ++ flat_map (caller_text l.file) (take l.caller-index l.callers);
  front : take (length l.initial.to.items) l.to.items ≡ l.initial.to.items;
  capacity : vec_capacity l.initial.to ≤ vec_capacity l.to;
}
