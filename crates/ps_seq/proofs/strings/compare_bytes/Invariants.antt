use Rattle.std.proofs.Common.{◌≡◌, ℕ, ◌+◌, ◌-◌, ◌≤◌, List, length, drop}
use Rattle.std.specs.Ordering.{nat_cmp}
use Rattle.std.specs.Cmp.Lexicographic.{slice_cmp}
use Rattle.ps_language.specs.Value.{Store}
use Rattle.ps_language.specs.Access.{bytes, part_bytes}
use Rattle.ps_mem.specs.Heap.{birth_at}
use Rattle.ps_mem.specs.Meaning.{part_of}
use Rattle.ps_mem.specs.Shows.{Shows}
use Rattle.ps_seq.proofs.strings.compare_bytes.Given as goal

-- the bytes before the index are the same: those from it on decide
abbrev pub invariant-loop-index : goal.invariant-loop-index
invariant-loop-index g l = let h = g.M.Memory.heap l.fn.memory in record {
  heap : g.M.Memory.heap l.memory ≡ h;
  grants : g.M.Memory.grants l.memory ≡ g.M.Memory.grants l.fn.memory;
  upto : l.index ≤ l.shared;
  order : (names : List (List ℕ)) (s : Store) → Shows h names s
      → l.left.offset + l.left.length ≤ length (bytes s (birth_at h l.left.address))
      → l.right.offset + l.right.length ≤ length (bytes s (birth_at h l.right.address))
      → slice_cmp nat_cmp (part_bytes s (part_of (birth_at h) l.left))
      (part_bytes s (part_of (birth_at h) l.right))
      ≡ slice_cmp nat_cmp (drop l.index (part_bytes s (part_of (birth_at h) l.left)))
      (drop l.index (part_bytes s (part_of (birth_at h) l.right)));
}

abbrev pub decreases-loop-index : goal.decreases-loop-index
decreases-loop-index g l = l.shared - l.index
