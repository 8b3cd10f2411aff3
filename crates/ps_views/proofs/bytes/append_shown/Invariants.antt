use Rattle.std.proofs.Common.{◌≡◌, ◌≤◌, ◌++◌, map, take, vec_capacity}
use Rattle.ps_views.specs.Bytes.{shown_byte}
use Rattle.ps_views.proofs.bytes.append_shown.Given as goal

-- those so far came behind what stood before
abbrev pub invariant-loop-byte : goal.invariant-loop-byte
invariant-loop-byte l = record {
  is : l.to.items ≡ l.initial.to.items ++ map (shown_byte l.showing) (take l.byte-index l.bytes);
  capacity : vec_capacity l.initial.to ≤ vec_capacity l.to;
}
