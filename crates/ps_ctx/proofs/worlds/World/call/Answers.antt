-- The call is made, or the element stays taken.
use Rattle.ps_ctx.proofs.Called.{steps_called, steps_uncalled}
use Rattle.ps_ctx.proofs.worlds.World.call.Goals as goal

pub returns-in-Ok : goal.returns-in-Ok
returns-in-Ok g c = λ asks.
    steps_called asks c.args.calling c.args.attempt c.args.shown _ _ c.requires.steady c.in-Ok.note
    (rw c.in-Ok.is at c.call.ensures)

pub returns-in-Err : goal.returns-in-Err
returns-in-Err g c = λ asks.
    rw c.requires.calling
    (steps_uncalled asks c.args.calling c.args.attempt c.args.shown _ _ c.requires.steady
    c.in-Err.reason (rw c.in-Err.is at c.call.ensures))
