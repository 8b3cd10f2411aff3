-- The context has settled, or calls.
use Rattle.ps_ctx.proofs.worlds.World.finish.Goals as goal

pub returns-in-Calls : goal.returns-in-Calls
returns-in-Calls g c =
    rw c.in-Calls.is (λ asks.
    (rw (c.settle.ensures.table, c.settle.ensures.faulted, c.in-Calls.is)
    at (c.call.ensures asks)))
