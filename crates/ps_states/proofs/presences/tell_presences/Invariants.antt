use Rattle.std.proofs.Common.{◌≡◌, ℕ, ◌+◌, ◌<◌, length, Some}
use Rattle.std.specs.Prelude.{slice_get}
use Rattle.ps_language.specs.World.{World}
use Rattle.ps_ctx_table.specs.Desks.{IsWorld}
use Rattle.ps_ctx.specs.Calls.{over_of}
use Rattle.ps_states.specs.Moments.{presence_at}
use Rattle.ps_states.proofs.presences.tell_presences.Given as goal

-- those so far are told
abbrev pub invariant-loop-place : goal.invariant-loop-place
invariant-loop-place g l = record {
  count : length l.seen.items ≡ l.place;
  each : (w : World) → IsWorld (over_of g.M.Memory.heap g.M.Memory.grants l.runtime l.contexts) w
      → (k : ℕ) → k < l.place → slice_get l.seen.items k ≡ Some (presence_at w (k + 1));
}
