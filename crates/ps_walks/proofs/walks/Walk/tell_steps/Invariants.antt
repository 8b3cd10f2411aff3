use Rattle.std.proofs.Common.{◌≡◌, ◌≤◌, ◌+◌, ◌-◌, ℕ, List, ◌++◌, length}
use Rattle.std.specs.Prelude.{◌⊎◌}
use Rattle.ps_language.specs.Schedules.{Move}
use Rattle.ps_language.specs.World.{World}
use Rattle.ps_ctx_table.specs.Desks.{IsWorld}
use Rattle.ps_walks.specs.StepLines.{AreStepLines}
use Rattle.ps_walks.specs.Walks.{desk_in, Stands, walked_all}
use Rattle.ps_walks.proofs.walks.Walk.tell_steps.Given as goal

-- so many of the moves were made, and their lines were told
abbrev pub invariant-loop-step : goal.invariant-loop-step
invariant-loop-step g l = record {
  stands : Stands g.M.Memory.heap g.M.Memory.grants l.self.runtime l.self.world;
  within : (l.step ≤ l.fn.range.last) ⊎ (l.step ≡ l.fn.range.past);
  told : (w : World)
      → IsWorld (desk_in g.M.Memory.heap g.M.Memory.grants l.fn.self.runtime l.fn.self.world) w
      → (done : List Move) × (told : List ℕ)
      × IsWorld (desk_in g.M.Memory.heap g.M.Memory.grants l.self.runtime l.self.world)
      (walked_all w done)
      × (l.text.items ≡ l.fn.text.items ++ told)
      × AreStepLines l.fn.scribe.file.now l.fn.range.past w done told
      × (l.fn.singles ≡ done ++ l.left)
      × (l.step ≡ l.fn.range.past + length done);
}

abbrev pub decreases-loop-step : goal.decreases-loop-step
decreases-loop-step g l = l.fn.range.last - l.step
