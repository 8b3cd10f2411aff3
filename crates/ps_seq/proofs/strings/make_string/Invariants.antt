use Rattle.std.proofs.Common.{◌≡◌, ◌≤◌, take}
use Rattle.ps_mem.specs.Heap.{stored}
use Rattle.ps_mem.specs.Strings.{words_of}
use Rattle.ps_seq.proofs.strings.make_string.Given as goal

-- the words up to the index are filled in
abbrev pub invariant-loop-index : goal.invariant-loop-index
invariant-loop-index g l = record {
  upto : l.index ≤ l.words;
  heap : g.M.Memory.heap l.memory ≡ stored (g.M.Memory.heap l.initial.memory) l.address 0
      (take l.index (words_of l.bytes));
  grants : g.M.Memory.grants l.memory ≡ g.M.Memory.grants l.initial.memory;
}
