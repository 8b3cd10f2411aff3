use Rattle.std.proofs.Common.{◌≡◌, ◌≤◌, ◌+◌, ◌*◌, take, length}
use Rattle.ps_language.specs.Value.{Store}
use Rattle.ps_mem.specs.Shows.{AreWithin, Shows}
use Rattle.ps_ops_operands.specs.Changes.{values_in}
use Rattle.ps_ops_dictionaries.specs.Literals.{met_among}
use Rattle.ps_ops_dictionaries.proofs.literals.names_fit.Given as goal

-- the names of those before this one are counted
abbrev pub invariant-loop-place : goal.invariant-loop-place
invariant-loop-place g l =
    let h = g.M.Memory.heap l.fn.memory in
    record {
      heap : g.M.Memory.heap l.memory ≡ h;
      grants : g.M.Memory.grants l.memory ≡ g.M.Memory.grants l.fn.memory;
      few : l.count ≤ length l.names + l.place;
      count : (s : Store) → Shows h l.names s → AreWithin h l.names s l.elements
          → length (met_among l.names s (take (2 * l.place) (values_in h l.names l.elements)))
          ≡ l.count;
    }
