use Rattle.std.proofs.Common.{◌≡◌, ◌+◌, ◌*◌, ◌≤◌, drop, ◌++◌, vec_len}
use Rattle.std.specs.Prelude.{vec_capacity, flat_map}
use Rattle.ps_gc_roots.specs.Roots.{roots_of_frame}
use Rattle.ps_gc_roots.proofs.reading.read_frames.Given as goal

-- what was read and the roots of the frames below are those of all
abbrev pub invariant-loop-depth : goal.invariant-loop-depth
invariant-loop-depth l = record {
  read : l.roots.items ++ flat_map roots_of_frame (drop l.depth l.frames)
      ≡ l.initial.roots.items ++ flat_map roots_of_frame l.frames;
  count : vec_len l.roots ≤ vec_len l.initial.roots + 2 * l.depth;
  capacity : vec_capacity l.roots ≡ vec_capacity l.initial.roots;
}
