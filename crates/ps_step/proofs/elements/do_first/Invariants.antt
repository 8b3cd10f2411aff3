use Rattle.std.proofs.Common.{◌≡◌, ◌+◌, ◌-◌}
use Rattle.ps_step.specs.Elements.{DoesTo}
use Rattle.ps_step.proofs.elements.do_first.Given as goal

-- those up to a place are done, and the memory stays
abbrev pub invariant-loop-at : goal.invariant-loop-at
invariant-loop-at g l = record {
  heap : g.M.Memory.heap l.memory ≡ g.M.Memory.heap l.initial.memory;
  grants : g.M.Memory.grants l.memory ≡ g.M.Memory.grants l.initial.memory;
  does : DoesTo (g.M.Memory.heap l.initial.memory) l.dictionaries l.rest
      (l.at - (l.rest.address + l.rest.offset))
      l.initial.operands l.operands;
}
