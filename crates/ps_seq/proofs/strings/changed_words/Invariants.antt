use Rattle.std.proofs.Common.{◌≡◌, ℕ, ◌+◌, ◌-◌, ◌*◌, ◌≤◌, List, length, drop, vec_len, vec_capacity}
use Rattle.ps_language.specs.Value.{Store}
use Rattle.ps_language.specs.Access.{bytes, splice}
use Rattle.ps_mem.specs.Heap.{birth_at}
use Rattle.ps_mem.specs.Strings.{words_from}
use Rattle.ps_mem.specs.Shows.{Shows}
use Rattle.ps_seq.proofs.strings.changed_words.Given as goal

-- the words before the index are pushed, and there is room for the rest
abbrev pub invariant-loop-index : goal.invariant-loop-index
invariant-loop-index g l = record {
  heap : g.M.Memory.heap l.memory ≡ g.M.Memory.heap l.fn.memory;
  grants : g.M.Memory.grants l.memory ≡ g.M.Memory.grants l.fn.memory;
  from : l.first ≤ l.index;
  upto : l.index ≤ l.last;
  count : vec_len l.words ≡ l.index - l.first;
  room : vec_len l.words + (l.last - l.index) ≤ vec_capacity l.words;
  kept : vec_capacity l.fn.words ≤ vec_capacity l.words;
  value : (names : List (List ℕ)) (s : Store) → Shows (g.M.Memory.heap l.fn.memory) names s
      → l.place + length l.text ≤ length (bytes s (birth_at (g.M.Memory.heap l.fn.memory)
      l.address)) →
      l.words.items ≡ words_from (l.index - l.first) (drop (8 * l.first) (splice (bytes s (birth_at
      (g.M.Memory.heap l.fn.memory) l.address)) l.place l.text));
}

abbrev pub decreases-loop-index : goal.decreases-loop-index
decreases-loop-index g l = l.last - l.index
