use Rattle.std.proofs.Common.{◌≡◌, ◌≤◌, ◌++◌, vec_capacity}
use Rattle.std.specs.Prelude.{replicate}
use Rattle.ps_views.proofs.bytes.append_repeated.Given as goal

-- so many came behind what stood before
abbrev pub invariant-loop-index : goal.invariant-loop-index
invariant-loop-index l = record {
  is : l.to.items ≡ l.initial.to.items ++ replicate l._index l.byte;
  capacity : vec_capacity l.initial.to ≤ vec_capacity l.to;
}
