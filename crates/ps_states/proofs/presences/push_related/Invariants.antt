use Rattle.std.proofs.Common.{◌≡◌, ◌++◌}
use Rattle.std.specs.List.{flat_map, range_with_len}
use Rattle.ps_language.specs.World.{World}
use Rattle.ps_ctx_table.specs.Desks.{IsWorld}
use Rattle.ps_ctx.specs.Calls.{over_of}
use Rattle.ps_states.specs.Moments.{ArePresences, arrow_to}
use Rattle.ps_states.proofs.presences.push_related.Given as goal

-- the arrows to those so far were pushed
abbrev pub invariant-loop-place : goal.invariant-loop-place
invariant-loop-place g l = (now after : World) → ArePresences l.seen now
    → IsWorld (over_of g.M.Memory.heap g.M.Memory.grants l.runtime l.contexts) after
    → l.arrows.items ≡ l.initial.arrows.items ++ flat_map
    (arrow_to l.related.tie l.related.step l.related.context now after)
    (range_with_len 1 l.place)
