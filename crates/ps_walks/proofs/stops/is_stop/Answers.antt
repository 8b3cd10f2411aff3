use Rattle.ps_walks.proofs.Stopping.{name_content}
use Rattle.ps_walks.proofs.stops.is_stop.Goals as goal

pub name_stops-requires-clause-name : goal.name_stops-requires-clause-name
name_stops-requires-clause-name g c = name_content _ c.in-Some.number c.in-Some.ensures
