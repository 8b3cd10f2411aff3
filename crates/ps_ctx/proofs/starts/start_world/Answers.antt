-- The first context stands in an empty table.
use Rattle.ps_ctx.proofs.Starting.{first_world}
use Rattle.ps_ctx.proofs.starts.start_world.Goals as goal

pub returns-clause-at : goal.returns-clause-at
returns-clause-at g c =
    rw (c.push_reserved.ensures, c.in-Ok.ensures)
    (first_world c.args.program.now _ _ c.in_ok-context.context c.in_ok-context.shared
    c.in_ok-context.ensures.starts)
