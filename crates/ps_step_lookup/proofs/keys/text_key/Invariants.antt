use Rattle.std.proofs.Common.{◌≡◌, ℕ, ◌+◌, ◌≤◌, List, length}
use Rattle.std.specs.Prelude.{slice_range}
use Rattle.ps_language.specs.Access.{bytes}
use Rattle.ps_language.specs.Value.{Store}
use Rattle.ps_mem.specs.Heap.{birth_at}
use Rattle.ps_mem.specs.Shows.{Shows}
use Rattle.ps_step_lookup.proofs.keys.text_key.Given as goal

-- the first characters were read
abbrev pub invariant-loop-index : goal.invariant-loop-index
invariant-loop-index g l = record {
  heap : g.M.Memory.heap l.memory ≡ g.M.Memory.heap l.fn.memory;
  grants : g.M.Memory.grants l.memory ≡ g.M.Memory.grants l.fn.memory;
  count : length l.text.items ≡ l.index;
  value : (names : List (List ℕ)) (s : Store) → Shows (g.M.Memory.heap l.fn.memory) names s
      → l.part.offset + l.part.length ≤ length (bytes s (birth_at
      (g.M.Memory.heap l.fn.memory) l.part.address))
      → l.text.items ≡ slice_range (bytes s (birth_at
      (g.M.Memory.heap l.fn.memory) l.part.address)) l.part.offset (l.part.offset + l.index);
}
