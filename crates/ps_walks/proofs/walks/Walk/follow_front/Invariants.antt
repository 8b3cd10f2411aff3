use Rattle.std.proofs.Common.{◌≡◌, length, take}
use Rattle.ps_language.specs.Schedules.{moves}
use Rattle.ps_language.specs.World.{World}
use Rattle.ps_ctx_table.specs.Desks.{IsWorld}
use Rattle.ps_walks.specs.Walks.{desk_in, Stands, walked_all}
use Rattle.ps_walks.proofs.walks.Walk.follow_front.Given as goal

-- the world that it is at comes to the same by the first of what is left
abbrev pub invariant-loop-entry : goal.invariant-loop-entry
invariant-loop-entry g l = record {
  stands : Stands g.M.Memory.heap g.M.Memory.grants l.self.runtime l.self.world;
  at : (w : World)
      → IsWorld (desk_in g.M.Memory.heap g.M.Memory.grants l.fn.self.runtime l.fn.self.world) w
      → (now : World)
      × IsWorld (desk_in g.M.Memory.heap g.M.Memory.grants l.self.runtime l.self.world) now
      × (walked_all w (take l.fn.steps (moves l.fn.schedule))
      ≡ walked_all now (take l.more (moves l.left)));
}

abbrev pub decreases-loop-entry : goal.decreases-loop-entry
decreases-loop-entry g l = length l.left
