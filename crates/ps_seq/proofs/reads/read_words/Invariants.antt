use Rattle.std.proofs.Common.{◌≡◌, ℕ, ◌+◌, ◌*◌, ◌≤◌, List, length, take}
use Rattle.std.specs.Prelude.{slice_range}
use Rattle.ps_language.specs.Value.{Store}
use Rattle.ps_language.specs.Access.{bytes}
use Rattle.ps_mem.specs.Heap.{birth_at}
use Rattle.ps_mem.specs.Shows.{Shows}
use Rattle.ps_seq.proofs.reads.read_words.Given as goal

-- the bytes of the words before the index are read
abbrev pub invariant-loop-index : goal.invariant-loop-index
invariant-loop-index g l = record {
  heap : g.M.Memory.heap l.memory ≡ g.M.Memory.heap l.fn.memory;
  grants : g.M.Memory.grants l.memory ≡ g.M.Memory.grants l.fn.memory;
  size : length l.text ≡ length l.fn.text;
  value : (names : List (List ℕ)) (s : Store) → Shows (g.M.Memory.heap l.fn.memory) names s
      → 8 * l.first + length l.fn.text ≤ length (bytes s (birth_at
      (g.M.Memory.heap l.fn.memory) l.address)) →
      take (8 * l.index) l.text ≡ slice_range (bytes s (birth_at
      (g.M.Memory.heap l.fn.memory) l.address)) (8 * l.first) (8 * l.first + 8 * l.index);
}
