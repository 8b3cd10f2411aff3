use Rattle.std.proofs.Common.{◌≡◌, ℕ, ◌-◌, ◌≤◌, List, drop}
use Rattle.ps_language.specs.Access.{dictionary_at}
use Rattle.ps_language.specs.Value.{Store}
use Rattle.ps_mem.specs.Heap.{birth_at}
use Rattle.ps_mem.specs.Shows.{Shows}
use Rattle.ps_ctx_readers.specs.Names.{name_among}
use Rattle.ps_ctx_readers.proofs.names.name_among.Given as goal

-- none of the pairs that were passed is such a name
abbrev pub invariant-loop-place : goal.invariant-loop-place
invariant-loop-place g l = record {
  within : l.place ≤ l.count;
  heap : g.M.Memory.heap l.memory ≡ g.M.Memory.heap l.fn.memory;
  grants : g.M.Memory.grants l.memory ≡ g.M.Memory.grants l.fn.memory;
  value : (names : List (List ℕ)) (s : Store) → Shows (g.M.Memory.heap l.fn.memory) names s
      → name_among l.birth
      (dictionary_at s (birth_at (g.M.Memory.heap l.fn.memory) l.address)).pairs
      ≡ name_among l.birth (drop l.place
      (dictionary_at s (birth_at (g.M.Memory.heap l.fn.memory) l.address)).pairs);
}

abbrev pub decreases-loop-place : goal.decreases-loop-place
decreases-loop-place g l = l.count - l.place
