use Rattle.std.proofs.Common.{◌≡◌, ◌*◌, false, take, bytes_eq}
use Rattle.std.specs.List.{list_any}
use Rattle.ps_language.specs.Value.{Store}
use Rattle.ps_mem.specs.Shows.{AreWithin, Shows}
use Rattle.ps_ops_operands.specs.Changes.{values_in}
use Rattle.ps_ops_dictionaries.specs.Literals.{met_among}
use Rattle.ps_ops_dictionaries.proofs.literals.is_before.Given as goal

-- none of those before this one has it
abbrev pub invariant-loop-place : goal.invariant-loop-place
invariant-loop-place g l =
    let h = g.M.Memory.heap l.fn.memory in
    record {
      heap : g.M.Memory.heap l.memory ≡ h;
      grants : g.M.Memory.grants l.memory ≡ g.M.Memory.grants l.fn.memory;
      none : (s : Store) → Shows h l.names s → AreWithin h l.names s l.elements
          → list_any (bytes_eq l.text) (met_among l.names s
          (take (2 * l.place) (values_in h l.names l.elements))) ≡ false;
    }
