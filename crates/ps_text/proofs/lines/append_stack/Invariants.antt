use Rattle.std.proofs.Common.{◌≡◌, ◌≤◌, ◌++◌, length, map, take, reverse}
use Rattle.std.specs.Prelude.{vec_capacity}
use Rattle.std.specs.List.{flat_map}
use Rattle.ps_language.specs.RowsOutput.{line}
use Rattle.ps_language.specs.Value.{Store}
use Rattle.ps_mem.specs.Heap.{birth_at}
use Rattle.ps_mem.specs.Meaning.{value_of}
use Rattle.ps_mem.specs.Shows.{AreValues, AreWithin, Shows}
use Rattle.ps_text.specs.Forms.{text_as}
use Rattle.ps_text.proofs.lines.append_stack.Given as goal

abbrev pub decreases-loop-word : goal.decreases-loop-word
decreases-loop-word g l = length l.rest

-- what is written and the lines that are left are the whole
abbrev pub invariant-loop-word : goal.invariant-loop-word
invariant-loop-word g l =
    let heap_in = g.M.Memory.heap in
    record {
      heap : heap_in l.memory ≡ heap_in l.fn.memory;
      grants : g.M.Memory.grants l.memory ≡ g.M.Memory.grants l.fn.memory;
      held : AreValues (heap_in l.fn.memory) l.rest;
      front : take (length l.initial.output.items) l.output.items ≡ l.initial.output.items;
      capacity : vec_capacity l.initial.output ≤ vec_capacity l.output;
      within : (s : Store) → AreWithin (heap_in l.fn.memory) l.names s l.fn.words
          → AreWithin (heap_in l.fn.memory) l.names s l.rest;
      left : (s : Store) → Shows (heap_in l.fn.memory) l.names s → AreWithin (heap_in l.fn.memory) l.names s l.fn.words
          →
          l.output.items ++ flat_map (line (text_as l.form) s)
          (map (value_of (birth_at (heap_in l.fn.memory)) l.names) (reverse l.rest))
          ≡ l.initial.output.items ++ flat_map (line (text_as l.form) s)
          (map (value_of (birth_at (heap_in l.fn.memory)) l.names) (reverse l.fn.words));
    }
