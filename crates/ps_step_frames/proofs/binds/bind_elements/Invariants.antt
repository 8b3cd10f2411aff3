-- The elements before the place are bound, and there is room for the rest.
use Rattle.std.proofs.Common.{◌≡◌, ◌+◌, ◌≤◌, length, vec_capacity}
use Rattle.ps_step_frames.proofs.Listing.{IsBoundTo}
use Rattle.ps_step_frames.proofs.binds.bind_elements.Given as goal

abbrev pub invariant-loop-place : goal.invariant-loop-place
invariant-loop-place g l = record {
  heap : g.M.Memory.heap l.memory ≡ g.M.Memory.heap l.fn.memory;
  grants : g.M.Memory.grants l.memory ≡ g.M.Memory.grants l.fn.memory;
  from : l.at ≤ l.place;
  upto : l.place ≤ l.over.length;
  count : l.at + length l.words.items ≡ l.place;
  capacity : vec_capacity l.words ≡ vec_capacity l.fn.words;
  bound : IsBoundTo (g.M.Memory.heap l.fn.memory) l.dictionaries l.over l.at l.place l.changed
      l.words.items;
}
