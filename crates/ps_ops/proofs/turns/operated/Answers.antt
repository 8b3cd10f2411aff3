-- The step goes on, breaks off, raises an error, or is not made.
use Rattle.std.proofs.Common.{ap, ◌∙◌, Err}
use Rattle.ps_ops.proofs.Named.{came}
use Rattle.ps_ops.proofs.Stepping.{goes_on, broken_on, raised_on, not_raised, names_back, not_made}
use Rattle.ps_ops.proofs.turns.operated.Goals as goal

pub returns-in-Ok : goal.returns-in-Ok
returns-in-Ok g c = goes_on _ _ _ _ (came _ c.in-Ok.is c.operate.ensures)

pub returns-in-Err-Unwinds : goal.returns-in-Err-Unwinds
returns-in-Err-Unwinds g c = broken_on _ _ _ _ _ c.in-Err-Unwinds.cause _
    (came _ (c.in-Err-Unwinds.is ∙ ap Err c.in-Err-Unwinds.field-0-is) c.operate.ensures)
    c.break_off.ensures

pub returns-in-Err-NotMade : goal.returns-in-Err-NotMade
returns-in-Err-NotMade g c = not_made _ _ _ _ _
    (came _ (c.in-Err-NotMade.is ∙ ap Err c.in-Err-NotMade.field-0-is) c.operate.ensures)

pub returns-in-Ok-raise_by : goal.returns-in-Ok-raise_by
returns-in-Ok-raise_by g c = raised_on _ _ _ _ _ c.in-Err-Raises.error _
    (came _ (c.in-Err-Raises.is ∙ ap Err c.in-Err-Raises.field-0-is) c.operate.ensures)
    (rw c.in-Ok-raise_by.is at c.raise_by.ensures)

pub returns-in-Err : goal.returns-in-Err
returns-in-Err g c =
    let raises = came _ (c.in-Err-Raises.is ∙ ap Err c.in-Err-Raises.field-0-is) c.operate.ensures
    in
    not_raised _ _ _ _ _ c.requires.good c.in-Err-Raises.error _ raises
    (rw c.in-Err.is at c.raise_by.ensures) _
    (c.truncate.ensures
    ∙ names_back c.args.operator c.args.attempt _ _ _ c.operate.ensures.stays
    c.raise_by.ensures.stays _ c.len-count.ensures.count)
