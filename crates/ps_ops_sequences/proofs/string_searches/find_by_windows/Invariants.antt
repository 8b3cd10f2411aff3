use Rattle.std.proofs.Common.{◌≡◌, ℕ, ◌+◌, ◌-◌, ◌<◌, ◌≤◌, List, length, vec_len, vec_capacity}
use Rattle.std.specs.Prelude.{slice_range}
use Rattle.memchr.specs.Find.{OccursAt}
use Rattle.ps_language.specs.Value.{Store}
use Rattle.ps_language.specs.Access.{bytes}
use Rattle.ps_mem.specs.Heap.{birth_at}
use Rattle.ps_mem.specs.Shows.{Shows}
use Rattle.ps_ops_sequences.proofs.string_searches.find_by_windows.Given as goal

-- what was read is the first bytes of the part, and has what is sought nowhere before `from`
abbrev pub invariant-loop-finder : goal.invariant-loop-finder
invariant-loop-finder g l = record {
  heap : g.M.Memory.heap l.memory ≡ g.M.Memory.heap l.fn.memory;
  grants : g.M.Memory.grants l.memory ≡ g.M.Memory.grants l.fn.memory;
  upto : vec_len l.text ≤ l.part.length;
  from : l.from ≤ vec_len l.text;
  reach : 0 < l.from → l.from + length l.sought ≤ vec_len l.text + 1;
  kept : vec_capacity l.fn.text ≤ vec_capacity l.text;
  read : (names : List (List ℕ)) (s : Store) → Shows (g.M.Memory.heap l.fn.memory) names s
      → l.part.offset + l.part.length ≤ length (bytes s (birth_at
      (g.M.Memory.heap l.fn.memory) l.part.address)) →
      l.text.items ≡ slice_range (bytes s (birth_at
      (g.M.Memory.heap l.fn.memory) l.part.address)) l.part.offset
      (l.part.offset + vec_len l.text);
  none : (names : List (List ℕ)) (s : Store) → Shows (g.M.Memory.heap l.fn.memory) names s
      → l.part.offset + l.part.length ≤ length (bytes s (birth_at
      (g.M.Memory.heap l.fn.memory) l.part.address)) →
      (k : ℕ) → k < l.from → ¬ OccursAt l.text.items l.sought k;
}

abbrev pub decreases-loop-finder : goal.decreases-loop-finder
decreases-loop-finder g l = l.part.length - vec_len l.text
