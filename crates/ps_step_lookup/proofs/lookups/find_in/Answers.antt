-- No dictionary has a name that was not met.
use Rattle.ps_step_lookup.proofs.Looking.{unsought_missing}
use Rattle.ps_step_lookup.proofs.lookups.find_in.Goals as goal

pub returns-in-None-clause-value : goal.returns-in-None-clause-value
returns-in-None-clause-value g c = λ names s k shows distinct sought.
    unsought_missing _ _ c.requires.known c.requires.sound names s shows _ c.in-None.is k sought
