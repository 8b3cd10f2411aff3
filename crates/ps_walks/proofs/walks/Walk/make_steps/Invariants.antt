use Rattle.std.proofs.Common.{◌≡◌, drop, take}
use Rattle.ps_language.specs.World.{World}
use Rattle.ps_ctx_table.specs.Desks.{IsWorld}
use Rattle.ps_walks.specs.Walks.{desk_in, Stands, walked_all}
use Rattle.ps_walks.proofs.walks.Walk.make_steps.Given as goal

-- the world that it is at comes to the same by the first of what is left
abbrev pub invariant-loop-more : goal.invariant-loop-more
invariant-loop-more g l = record {
  stands : Stands g.M.Memory.heap g.M.Memory.grants l.self.runtime l.self.world;
  left : drop l.steps l.fn.left ≡ drop l.more l.left;
  at : (w : World)
      → IsWorld (desk_in g.M.Memory.heap g.M.Memory.grants l.fn.self.runtime l.fn.self.world) w
      → (now : World)
      × IsWorld (desk_in g.M.Memory.heap g.M.Memory.grants l.self.runtime l.self.world) now
      × (walked_all w (take l.steps l.fn.left) ≡ walked_all now (take l.more l.left));
}

abbrev pub decreases-loop-more : goal.decreases-loop-more
decreases-loop-more g l = l.more
