use Rattle.std.proofs.Common.{◌≡◌, ℕ, List, ◌++◌, drop, take}
use Rattle.ps_language.specs.World.{World}
use Rattle.ps_ctx_table.specs.Desks.{IsWorld}
use Rattle.ps_views.specs.Cuts.{AreRising}
use Rattle.ps_walks.specs.Cuts.{AreCutLines}
use Rattle.ps_walks.specs.Walks.{desk_in, Stands, walked_all}
use Rattle.ps_walks.proofs.walks.Walk.tell_cuts.Given as goal

-- the steps before the last cut that was told were made, and the lines of those that are left are
-- wanted
abbrev pub invariant-loop-cut : goal.invariant-loop-cut
invariant-loop-cut g l = record {
  stands : Stands g.M.Memory.heap g.M.Memory.grants l.self.runtime l.self.world;
  left : l.left ≡ drop l.past l.fn.singles;
  rising : AreRising l.past (drop l.cut-index l.cuts);
  told : (w : World)
      → IsWorld (desk_in g.M.Memory.heap g.M.Memory.grants l.fn.self.runtime l.fn.self.world) w
      → (told : List ℕ)
      × IsWorld (desk_in g.M.Memory.heap g.M.Memory.grants l.self.runtime l.self.world)
      (walked_all w (take l.past l.fn.singles))
      × (l.text.items ≡ l.fn.text.items ++ told)
      × ((rest : List ℕ)
      → AreCutLines l.fn.scribe.file.now (λ steps. walked_all w (take steps l.fn.singles))
      (drop l.cut-index l.cuts) rest
      → AreCutLines l.fn.scribe.file.now (λ steps. walked_all w (take steps l.fn.singles))
      l.cuts (told ++ rest));
}
