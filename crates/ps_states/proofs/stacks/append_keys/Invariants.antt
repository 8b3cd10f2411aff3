use Rattle.std.proofs.Common.{◌≡◌, ◌++◌, take}
use Rattle.std.specs.List.{flat_map}
use Rattle.ps_language.specs.Access.{dictionary_at}
use Rattle.ps_language.specs.Value.{Store}
use Rattle.ps_mem.specs.Heap.{birth_at}
use Rattle.ps_mem.specs.Shows.{Shows}
use Rattle.ps_states.specs.States.{key_text}
use Rattle.ps_states.proofs.stacks.append_keys.Given as goal

-- those so far were told
abbrev pub invariant-loop-place : goal.invariant-loop-place
invariant-loop-place g l = record {
  heap : g.M.Memory.heap l.runtime.memory ≡ g.M.Memory.heap l.fn.runtime.memory;
  grants : g.M.Memory.grants l.runtime.memory ≡ g.M.Memory.grants l.fn.runtime.memory;
  shared : l.runtime.shared ≡ l.fn.runtime.shared;
  keys : (s : Store) → Shows (g.M.Memory.heap l.fn.runtime.memory) l.fn.runtime.shared.names s
      → l.to.items ≡ l.fn.to.items ++ flat_map (key_text s) (take l.place
      (dictionary_at s (birth_at (g.M.Memory.heap l.fn.runtime.memory) l.address)).pairs);
}
