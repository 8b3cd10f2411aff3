use Rattle.ps_language.specs.World.{World}
use Rattle.ps_ctx_table.specs.Desks.{IsWorld}
use Rattle.ps_walks.specs.Walks.{desk_in, Stands, walked_all}
use Rattle.ps_walks.proofs.Following.{first_moves}
use Rattle.ps_walks.proofs.walks.Walk.follow.Given as goal

-- so many of the entry's steps were made
abbrev pub invariant-loop-number : goal.invariant-loop-number
invariant-loop-number g l = record {
  stands : Stands g.M.Memory.heap g.M.Memory.grants l.self.runtime l.self.world;
  at : (w : World)
      → IsWorld (desk_in g.M.Memory.heap g.M.Memory.grants l.fn.self.runtime l.fn.self.world) w
      → IsWorld (desk_in g.M.Memory.heap g.M.Memory.grants l.self.runtime l.self.world)
      (walked_all w (first_moves l.entry l.entry.steps l.number));
}
