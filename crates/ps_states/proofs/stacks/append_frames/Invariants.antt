use Rattle.std.proofs.Common.{◌≡◌, ◌++◌, take}
use Rattle.std.specs.List.{flat_map}
use Rattle.ps_language.specs.Value.{Store}
use Rattle.ps_mem.specs.Shows.{Shows}
use Rattle.ps_ops_control.specs.Frames.{AreFramesWithin, frames_in}
use Rattle.ps_ops_operands.specs.Changes.{values_in}
use Rattle.ps_states.specs.Chosen.{chart_of}
use Rattle.ps_states.specs.States.{frame_told}
use Rattle.ps_states.proofs.stacks.append_frames.Given as goal

-- those so far were told
abbrev pub invariant-loop-depth : goal.invariant-loop-depth
invariant-loop-depth g l = record {
  heap : g.M.Memory.heap l.runtime.memory ≡ g.M.Memory.heap l.fn.runtime.memory;
  grants : g.M.Memory.grants l.runtime.memory ≡ g.M.Memory.grants l.fn.runtime.memory;
  shared : l.runtime.shared ≡ l.fn.runtime.shared;
  lines : (s : Store) → Shows (g.M.Memory.heap l.fn.runtime.memory) l.fn.runtime.shared.names s
      → AreFramesWithin (g.M.Memory.heap l.fn.runtime.memory) l.fn.runtime.shared.names s l.frames
      → l.to.items ≡ l.fn.to.items ++ flat_map (frame_told (chart_of l.chart) s (values_in (g.M.Memory.heap l.fn.runtime.memory) l.fn.runtime.shared.names l.dictionaries)) (take l.depth
      (frames_in (g.M.Memory.heap l.fn.runtime.memory) l.fn.runtime.shared.names l.frames));
}
