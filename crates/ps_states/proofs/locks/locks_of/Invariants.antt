use Rattle.std.proofs.Common.{◌≡◌, ℕ, List, take, map}
use Rattle.std.specs.List.{flat_map}
use Rattle.ps_language.specs.Value.{Store}
use Rattle.ps_mem.specs.Heap.{birth_at}
use Rattle.ps_mem.specs.Shows.{Shows}
use Rattle.ps_ops_control.specs.Frames.{frame_of}
use Rattle.ps_states.specs.States.{held_lock}
use Rattle.ps_states.proofs.locks.locks_of.Given as goal

-- those so far are there
abbrev pub invariant-loop-frame : goal.invariant-loop-frame
invariant-loop-frame g l = record {
  heap : g.M.Memory.heap l.memory ≡ g.M.Memory.heap l.fn.memory;
  grants : g.M.Memory.grants l.memory ≡ g.M.Memory.grants l.fn.memory;
  locks : (names : List (List ℕ)) (s : Store) → Shows (g.M.Memory.heap l.fn.memory) names s
      → l.locks.items ≡ flat_map (held_lock s l.identifier) (take l.frame-index
      (map (frame_of (birth_at (g.M.Memory.heap l.fn.memory)) names) l.held));
}
