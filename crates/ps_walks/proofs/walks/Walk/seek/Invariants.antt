use Rattle.std.proofs.Common.{◌≡◌, ℕ, Option, length}
use Rattle.ps_language.specs.World.{World}
use Rattle.ps_ctx_table.specs.Desks.{IsWorld}
use Rattle.ps_states.specs.Sought.{sought_of}
use Rattle.ps_walks.specs.Finds.{IsFound}
use Rattle.ps_walks.specs.Walks.{desk_in, Stands}
use Rattle.ps_walks.proofs.walks.Walk.seek.Given as goal

-- none was such a one: what is found among those that are left is found among all
abbrev pub invariant-loop-single : goal.invariant-loop-single
invariant-loop-single g l = record {
  stands : Stands g.M.Memory.heap g.M.Memory.grants l.self.runtime l.self.world;
  none : (w : World)
      → IsWorld (desk_in g.M.Memory.heap g.M.Memory.grants l.fn.self.runtime l.fn.self.world) w
      → (now : World)
      × IsWorld (desk_in g.M.Memory.heap g.M.Memory.grants l.self.runtime l.self.world) now
      × ((found : Option ℕ)
      → IsFound l.fn.scribe.file.now (sought_of l.fn.sought) l.step now l.left found
      → IsFound l.fn.scribe.file.now (sought_of l.fn.sought) l.fn.past w l.fn.singles found);
}

abbrev pub decreases-loop-single : goal.decreases-loop-single
decreases-loop-single g l = length l.left
