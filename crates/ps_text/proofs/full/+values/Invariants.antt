use Rattle.std.proofs.Common.{◌≡◌, ◌+◌, ◌*◌, ◌≤◌, ◌++◌, map, take, drop}
use Rattle.std.specs.Prelude.{vec_capacity}
use Rattle.std.specs.List.{join_with_byte}
use Rattle.ps_language.specs.Access.{part_elements}
use Rattle.ps_language.specs.Value.{Store}
use Rattle.ps_mem.specs.Heap.{birth_at}
use Rattle.ps_mem.specs.Meaning.{part_of}
use Rattle.ps_mem.specs.Shows.{Shows}
use Rattle.ps_text.specs.Shown.{GoesOn, text_to}
use Rattle.ps_text.proofs.Rests.{rest_text}
use Rattle.ps_text.proofs.full.+values.Given as goal

abbrev pub decreases-append_value : goal.decreases-append_value
decreases-append_value g l = 2 * l.depth

abbrev pub decreases-append_elements : goal.decreases-append_elements
decreases-append_elements g l = 2 * l.depth + 1

-- what is written and the text of the elements that are left are the whole
abbrev pub invariant-append_elements-loop-index : goal.invariant-append_elements-loop-index
invariant-append_elements-loop-index g l =
    let heap_in = g.M.Memory.heap in
    record {
      heap : heap_in l.memory ≡ heap_in l.fn.memory;
      grants : g.M.Memory.grants l.memory ≡ g.M.Memory.grants l.fn.memory;
      goes_on : GoesOn l.printer.end l.initial.output.items l.output.items;
      capacity : vec_capacity l.initial.output ≤ vec_capacity l.output;
      rest : (s : Store) → Shows (heap_in l.fn.memory) l.printer.names.now s →
          take l.printer.end (l.output.items ++ rest_text l.index
          (map (text_to l.depth s)
          (drop l.index (part_elements s (part_of (birth_at (heap_in l.fn.memory)) l.part)))))
          ≡ take l.printer.end (l.initial.output.items ++ join_with_byte 32
          (map (text_to l.depth s) (part_elements s (part_of (birth_at (heap_in l.fn.memory)) l.part))));
    }
