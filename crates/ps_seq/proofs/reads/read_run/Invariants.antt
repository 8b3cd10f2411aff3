use Rattle.std.proofs.Common.{◌≡◌, ℕ, ◌+◌, ◌-◌, ◌≤◌, List, length, take}
use Rattle.std.specs.Prelude.{slice_range}
use Rattle.ps_language.specs.Value.{Store}
use Rattle.ps_language.specs.Access.{bytes}
use Rattle.ps_mem.specs.Heap.{birth_at}
use Rattle.ps_mem.specs.Shows.{Shows}
use Rattle.ps_seq.proofs.reads.read_run.Given as goal

-- the bytes up to the place are read
abbrev pub invariant-loop-place : goal.invariant-loop-place
invariant-loop-place g l = record {
  heap : g.M.Memory.heap l.memory ≡ g.M.Memory.heap l.fn.memory;
  grants : g.M.Memory.grants l.memory ≡ g.M.Memory.grants l.fn.memory;
  from : l.start ≤ l.place;
  upto : l.place ≤ l.start + length l.fn.text;
  size : length l.text ≡ length l.fn.text;
  value : (names : List (List ℕ)) (s : Store) → Shows (g.M.Memory.heap l.fn.memory) names s
      → l.start + length l.fn.text ≤ length (bytes s (birth_at
      (g.M.Memory.heap l.fn.memory) l.address)) →
      take (l.place - l.start) l.text ≡ slice_range (bytes s (birth_at
      (g.M.Memory.heap l.fn.memory) l.address)) l.start l.place;
}

abbrev pub decreases-loop-place : goal.decreases-loop-place
decreases-loop-place g l = l.end - l.place
