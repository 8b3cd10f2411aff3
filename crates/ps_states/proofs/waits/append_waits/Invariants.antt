use Rattle.std.proofs.Common.{◌≡◌, ◌++◌, take}
use Rattle.ps_language.specs.World.{World}
use Rattle.ps_ctx_table.specs.Desks.{IsWorld}
use Rattle.ps_ctx.specs.Calls.{over_of}
use Rattle.ps_states.specs.States.{each_context}
use Rattle.ps_states.specs.Waits.{status_in}
use Rattle.ps_states.proofs.waits.append_waits.Given as goal

-- those so far were told
abbrev pub invariant-loop-place : goal.invariant-loop-place
invariant-loop-place g l = record {
  heap : g.M.Memory.heap l.runtime.memory ≡ g.M.Memory.heap l.fn.runtime.memory;
  grants : g.M.Memory.grants l.runtime.memory ≡ g.M.Memory.grants l.fn.runtime.memory;
  shared : l.runtime.shared ≡ l.fn.runtime.shared;
  lines : (w : World)
      → IsWorld (over_of g.M.Memory.heap g.M.Memory.grants l.fn.runtime l.crowd.contexts.now) w
      → l.to.items ≡ l.fn.to.items ++ each_context (status_in w) 1 (take l.place w.contexts);
}
