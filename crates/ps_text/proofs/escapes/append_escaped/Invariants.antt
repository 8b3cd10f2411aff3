use Rattle.std.proofs.Common.{◌≡◌, ◌+◌, ◌-◌, ◌≤◌, ◌++◌, List, ℕ, length, take, drop}
use Rattle.std.specs.Prelude.{vec_capacity}
use Rattle.std.specs.List.{flat_map}
use Rattle.ps_language.specs.Access.{bytes, part_bytes}
use Rattle.ps_language.specs.Texts.{escaped}
use Rattle.ps_language.specs.Value.{Store}
use Rattle.ps_mem.specs.Heap.{birth_at}
use Rattle.ps_mem.specs.Meaning.{part_of}
use Rattle.ps_mem.specs.Shows.{Shows}
use Rattle.ps_text.specs.Shown.{GoesOn}
use Rattle.ps_text.proofs.escapes.append_escaped.Given as goal

-- what is written and the escapes of the bytes that are left are the whole
abbrev pub invariant-loop-index : goal.invariant-loop-index
invariant-loop-index g l =
    let heap_in = g.M.Memory.heap in
    record {
      heap : heap_in l.memory ≡ heap_in l.initial.memory;
      grants : g.M.Memory.grants l.memory ≡ g.M.Memory.grants l.initial.memory;
      within : l.index ≤ l.part.length;
      goes_on : GoesOn l.end l.initial.output.items l.output.items;
      capacity : vec_capacity l.initial.output ≤ vec_capacity l.output;
      rest : (names : List (List ℕ)) (s : Store) → Shows (heap_in l.initial.memory) names s
          → l.part.offset + l.part.length ≤ length (bytes s (birth_at (heap_in l.initial.memory) l.part.address)) →
          take l.end (l.output.items ++ flat_map escaped
          (drop l.index (part_bytes s (part_of (birth_at (heap_in l.initial.memory)) l.part))))
          ≡ take l.end (l.initial.output.items ++ flat_map escaped
          (part_bytes s (part_of (birth_at (heap_in l.initial.memory)) l.part)));
    }

abbrev pub decreases-loop-index : goal.decreases-loop-index
decreases-loop-index g l = l.part.length - l.index
