-- An error is noted where frames are left, else it ends the context.
use Rattle.std.proofs.Common.{◌∙◌}
use Rattle.ps_step_outcome.proofs.Raising.{raised_on, not_raised}
use Rattle.ps_step_outcome.proofs.raises.raise.Goals as goal

pub returns-in-Ok : goal.returns-in-Ok
returns-in-Ok g c =
    raised_on c.args.error c.args.command c.args.attempt _ c.requires.good _ _
    (λ none. c.if-len-eq0.false (c.len.ensures.count ∙ none)) (rw c.in-Ok.is at c.note.ensures)

pub returns-in-Err : goal.returns-in-Err
returns-in-Err g c =
    not_raised c.args.error c.args.command c.args.attempt _ c.requires.good _ _ _
    (rw c.in-Err.is at c.note.ensures)
