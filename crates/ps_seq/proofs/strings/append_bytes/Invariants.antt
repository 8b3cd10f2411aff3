use Rattle.std.proofs.Common.{◌≡◌, ℕ, ◌+◌, ◌-◌, ◌≤◌, ◌++◌, List, length, take, vec_len, vec_capacity}
use Rattle.std.specs.Prelude.{slice_range}
use Rattle.ps_language.specs.Value.{Store}
use Rattle.ps_language.specs.Access.{bytes}
use Rattle.ps_mem.specs.Heap.{birth_at}
use Rattle.ps_mem.specs.Shows.{Shows}
use Rattle.ps_seq.proofs.strings.append_bytes.Given as goal

-- so many bytes are appended, and there is room for the rest
abbrev pub invariant-loop-done : goal.invariant-loop-done
invariant-loop-done g l = let h = g.M.Memory.heap l.fn.memory in record {
  heap : g.M.Memory.heap l.memory ≡ h;
  grants : g.M.Memory.grants l.memory ≡ g.M.Memory.grants l.fn.memory;
  upto : l.done ≤ l.part.length;
  count : vec_len l.output ≡ vec_len l.fn.output + l.done;
  room : vec_len l.output + (l.part.length - l.done) ≤ vec_capacity l.output;
  kept : vec_capacity l.fn.output ≤ vec_capacity l.output;
  front : take (length l.fn.output.items) l.output.items ≡ l.fn.output.items;
  value : (names : List (List ℕ)) (s : Store) → Shows h names s
      → l.part.offset + l.part.length ≤ length (bytes s (birth_at h l.part.address))
      → l.output.items ≡ l.fn.output.items ++ slice_range (bytes s (birth_at h l.part.address))
      l.part.offset (l.part.offset + l.done);
}

abbrev pub decreases-loop-done : goal.decreases-loop-done
decreases-loop-done g l = l.part.length - l.done
