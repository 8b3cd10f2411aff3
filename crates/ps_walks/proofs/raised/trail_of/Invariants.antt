use Rattle.std.proofs.Common.{◌≡◌, ◌++◌}
use Rattle.ps_language.specs.World.{World}
use Rattle.ps_mem.specs.Heap.{birth_at}
use Rattle.ps_ctx_table.specs.Desks.{IsWorld}
use Rattle.ps_ctx_readers.specs.Frames.{frames_at}
use Rattle.ps_walks.specs.Places.{are_meant, trail_of}
use Rattle.ps_walks.specs.Walks.{desk_in}
use Rattle.ps_walks.proofs.Trailing.{left}
use Rattle.ps_walks.proofs.raised.trail_of.Given as goal

-- memory and what is shared were only read; what is left of the frames is what is left of the trail
abbrev pub invariant-loop-depth : goal.invariant-loop-depth
invariant-loop-depth g l = record {
  heap : g.M.Memory.heap l.runtime.memory ≡ g.M.Memory.heap l.fn.runtime.memory;
  grants : g.M.Memory.grants l.runtime.memory ≡ g.M.Memory.grants l.fn.runtime.memory;
  shared : l.runtime.shared ≡ l.fn.runtime.shared;
  trail : (w : World)
      → IsWorld (desk_in g.M.Memory.heap g.M.Memory.grants l.fn.runtime l.world) w
      → trail_of l.map w l.taken
      ≡ are_meant (birth_at (g.M.Memory.heap l.fn.runtime.memory)) l.fn.runtime.shared.names
      l.trail.items
      ++ left l.taken l.map.token l.map w (frames_at w l.map.context) l.depth;
}
