use Rattle.std.proofs.Common.{◌≡◌, ◌++◌, ◌∷◌, take}
use Rattle.std.specs.List.{flat_map}
use Rattle.ps_language.specs.Value.{Store}
use Rattle.ps_mem.specs.Shows.{AreWithin, Shows}
use Rattle.ps_ops_operands.specs.Changes.{values_in}
use Rattle.ps_states.specs.Steps.{operand_shown}
use Rattle.ps_states.proofs.operands.append_others.Given as goal

-- those so far were told
abbrev pub invariant-loop-word : goal.invariant-loop-word
invariant-loop-word g l = record {
  heap : g.M.Memory.heap l.runtime.memory ≡ g.M.Memory.heap l.fn.runtime.memory;
  grants : g.M.Memory.grants l.runtime.memory ≡ g.M.Memory.grants l.fn.runtime.memory;
  shared : l.runtime.shared ≡ l.fn.runtime.shared;
  texts : (s : Store) → Shows (g.M.Memory.heap l.fn.runtime.memory) l.fn.runtime.shared.names s
      → AreWithin (g.M.Memory.heap l.fn.runtime.memory) l.fn.runtime.shared.names s l.words
      → l.to.items ≡ l.fn.to.items ++ flat_map (λ value. 32 ∷ operand_shown s value)
      (take l.word-index
      (values_in (g.M.Memory.heap l.fn.runtime.memory) l.fn.runtime.shared.names l.words));
}
