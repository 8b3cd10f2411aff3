use Rattle.ps_core_laws.proofs.RunFacts.{bounded_run}
use Rattle.ps_core.proofs.runs.Core.permits.Goals as goal

pub permits-requires : goal.permits-requires
permits-requires c = bounded_run _ _ _ c.self.invariant
