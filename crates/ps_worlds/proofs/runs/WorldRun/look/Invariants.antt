use Rattle.std.proofs.Common.{◌≡◌, ◌<◌, ℕ, suc, false, length}
use Rattle.std.specs.Prelude.{get_or}
use Rattle.ps_language.specs.Locks.{is_ready}
use Rattle.ps_language.specs.World.{World}
use Rattle.ps_ctx_table.specs.Desks.{IsWorld}
use Rattle.ps_worlds.specs.Runs.{standing}
use Rattle.ps_worlds.proofs.runs.WorldRun.look.Given as goal

-- of the first identifiers it is known
abbrev pub invariant-loop-place : goal.invariant-loop-place
invariant-loop-place g l = record {
  held : (standing g.M.Memory.heap g.M.Memory.grants l.self).held
      ≡ (standing g.M.Memory.heap g.M.Memory.grants l.fn.self).held;
  path : l.self.path ≡ l.fn.self.path;
  count : length l.self.ready.items ≡ l.place;
  each : (w : World)
      → IsWorld (standing g.M.Memory.heap g.M.Memory.grants l.fn.self).held.desk w
      → (k : ℕ) → k < l.place → get_or l.self.ready.items k false ≡ is_ready w (suc k);
}
