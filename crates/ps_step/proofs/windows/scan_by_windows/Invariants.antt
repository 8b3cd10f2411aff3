use Rattle.std.proofs.Common.{◌≡◌, ◌-◌, ◌<◌, ◌≤◌}
use Rattle.ps_step.proofs.windows.scan_by_windows.Given as goal

-- the memory stays, and the window is some of the part
abbrev pub invariant-loop-size : goal.invariant-loop-size
invariant-loop-size g l = record {
  heap : g.M.Memory.heap l.memory ≡ g.M.Memory.heap l.fn.memory;
  grants : g.M.Memory.grants l.memory ≡ g.M.Memory.grants l.fn.memory;
  some : l.size < l.part.length → 0 < l.size;
  within : l.size ≤ l.part.length;
  near : l.at ≤ l.size;
}

abbrev pub decreases-loop-size : goal.decreases-loop-size
decreases-loop-size g l = l.part.length - l.size
