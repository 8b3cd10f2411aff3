use Rattle.std.proofs.Common.{◌≡◌, ◌≢◌, ℕ, ◌-◌, ◌≤◌, List, drop, length, AllPairs}
use Rattle.ps_language.specs.Dictionaries.{look_up}
use Rattle.ps_language.specs.Value.{Store}
use Rattle.ps_mem.specs.Heap.{birth_at}
use Rattle.ps_mem.specs.Meaning.{value_of}
use Rattle.ps_mem.specs.Shows.{IsWithin, Shows}
use Rattle.ps_ops_operands.specs.Changes.{values_in}
use Rattle.ps_step_lookup.proofs.lookups.look_up_name.Given as goal

-- none of the dictionaries that were passed has the name
abbrev pub invariant-loop-below : goal.invariant-loop-below
invariant-loop-below g l = record {
  within : l.below ≤ length l.dictionaries;
  heap : g.M.Memory.heap l.memory ≡ g.M.Memory.heap l.fn.memory;
  grants : g.M.Memory.grants l.memory ≡ g.M.Memory.grants l.fn.memory;
  value : (names : List (List ℕ)) (s : Store)
      → Shows (g.M.Memory.heap l.fn.memory) names s
      → AllPairs (λ first later. first ≢ later) names
      → IsWithin (birth_at (g.M.Memory.heap l.fn.memory)) names s l.word
      → look_up s (values_in (g.M.Memory.heap l.fn.memory) names l.dictionaries)
      (value_of (birth_at (g.M.Memory.heap l.fn.memory)) names l.word)
      ≡ look_up s (drop (length l.dictionaries - l.below)
      (values_in (g.M.Memory.heap l.fn.memory) names l.dictionaries))
      (value_of (birth_at (g.M.Memory.heap l.fn.memory)) names l.word);
}

abbrev pub decreases-loop-below : goal.decreases-loop-below
decreases-loop-below g l = l.below
