use Rattle.std.proofs.Common.{◌≡◌, ℕ, ◌+◌, ◌≤◌, List, length}
use Rattle.memchr.specs.Find.{Nowhere, Passes, is_byte}
use Rattle.ps_language.specs.Value.{Store}
use Rattle.ps_language.specs.Access.{bytes, part_bytes}
use Rattle.ps_mem.specs.Heap.{birth_at}
use Rattle.ps_mem.specs.Meaning.{part_of}
use Rattle.ps_mem.specs.Shows.{Shows}
use Rattle.ps_ops_sequences.proofs.string_searches.find_byte.Given as goal

-- none of the bytes before the index is the one sought
abbrev pub invariant-loop-index : goal.invariant-loop-index
invariant-loop-index g l = let h = g.M.Memory.heap l.fn.memory in record {
  heap : g.M.Memory.heap l.memory ≡ h;
  grants : g.M.Memory.grants l.memory ≡ g.M.Memory.grants l.fn.memory;
  none : (names : List (List ℕ)) (s : Store) → Shows h names s
      → l.part.offset + l.part.length ≤ length (bytes s (birth_at h l.part.address))
      → Nowhere (Passes (is_byte l.sought) (part_bytes s (part_of (birth_at h) l.part))) 0 l.index;
}
