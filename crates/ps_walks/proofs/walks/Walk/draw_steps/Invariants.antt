use Rattle.std.proofs.Common.{◌≡◌, ◌≤◌, [], ◌++◌, List, length}
use Rattle.ps_language.specs.Schedules.{Move}
use Rattle.ps_language.specs.World.{World}
use Rattle.ps_ctx_table.specs.Desks.{IsWorld}
use Rattle.ps_walks.specs.Drawings.{IsDrawn}
use Rattle.ps_walks.specs.Walks.{desk_in, Stands, walked_all}
use Rattle.ps_walks.proofs.walks.Walk.draw_steps.Given as goal

-- so many of the moves were made and drawn
abbrev pub invariant-loop-single : goal.invariant-loop-single
invariant-loop-single g l = record {
  stands : Stands g.M.Memory.heap g.M.Memory.grants l.self.runtime l.self.world;
  within : length l.drawing.seen.items ≤ 2147483647;
  drawn : (start : World)
      → IsWorld (desk_in g.M.Memory.heap g.M.Memory.grants l.fn.self.runtime l.fn.self.world) start
      → IsDrawn start [] l.fn.drawing
      → (done : List Move)
      × IsWorld (desk_in g.M.Memory.heap g.M.Memory.grants l.self.runtime l.self.world)
      (walked_all start done)
      × IsDrawn start done l.drawing
      × (l.fn.singles ≡ done ++ l.left)
      × (l.step ≡ length done);
}

abbrev pub decreases-loop-single : goal.decreases-loop-single
decreases-loop-single g l = length l.left
