use Rattle.std.proofs.Common.{◌≡◌, ℕ, List, drop}
use Rattle.ps_language.specs.Value.{Store}
use Rattle.ps_mem.specs.Shows.{Shows}
use Rattle.ps_ops_operands.specs.Changes.{values_in}
use Rattle.ps_ctx_readers.specs.Names.{name_through}
use Rattle.ps_ctx_readers.proofs.names.procedure_name.Given as goal

-- none of the dictionaries that were passed has such a name
abbrev pub invariant-loop-depth : goal.invariant-loop-depth
invariant-loop-depth g l = record {
  heap : g.M.Memory.heap l.memory ≡ g.M.Memory.heap l.fn.memory;
  grants : g.M.Memory.grants l.memory ≡ g.M.Memory.grants l.fn.memory;
  value : (names : List (List ℕ)) (s : Store) → Shows (g.M.Memory.heap l.fn.memory) names s
      → name_through s l.birth
      (values_in (g.M.Memory.heap l.fn.memory) names l.dictionaries)
      ≡ name_through s l.birth (drop l.depth
      (values_in (g.M.Memory.heap l.fn.memory) names l.dictionaries));
}
