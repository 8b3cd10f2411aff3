-- All is as it is to be, or the error is raised.
use Rattle.std.proofs.Common.{refl}
use Rattle.ps_step_frames.proofs.Framing.{goes_here}
use Rattle.ps_step_frames.proofs.loops.settle.Goals as goal

pub returns-in-Ok-clause-turns : goal.returns-in-Ok-clause-turns
returns-in-Ok-clause-turns g c =
    goes_here _ c.requires.good _ c.args.attempt (λ s shown. rw c.in-Ok.is refl)

pub returns-in-Err-clause-turns : goal.returns-in-Err-clause-turns
returns-in-Err-clause-turns g c = rw c.in-Err.is c.raise_by.ensures
