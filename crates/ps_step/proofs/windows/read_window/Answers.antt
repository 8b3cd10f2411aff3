-- The list is what is left of the string, as far as it was read.
use Rattle.ps_step.proofs.windows.read_window.Goals as goal

pub returns-clause-read : goal.returns-clause-read
returns-clause-read g c =
    rw c.rest_of-rest.ensures (rw c.rest_of-rest.ensures at c.read_part.ensures.read)
