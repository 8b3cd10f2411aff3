use Rattle.std.proofs.Common.{◌≡◌, ◌*◌, ◌≤◌, drop, ◌++◌, vec_len, length}
use Rattle.std.specs.Prelude.{vec_capacity, flat_map}
use Rattle.ps_gc_roots.specs.Roots.{roots_of_member}
use Rattle.ps_gc_roots.proofs.reading.read_roots.Given as goal

-- what was read and the roots of those that are left are those of all
abbrev pub invariant-loop-member : goal.invariant-loop-member
invariant-loop-member l = record {
  read : l.roots.items ++ flat_map roots_of_member (drop l.member-index l.member-items)
      ≡ flat_map roots_of_member l.member-items;
  count : vec_len l.roots ≤ 1023 * l.member-index;
  within : l.member-index ≤ length l.member-items;
  capacity : vec_capacity l.roots ≡ vec_capacity l.initial.roots;
}
