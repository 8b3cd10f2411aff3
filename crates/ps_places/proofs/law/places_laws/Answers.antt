-- The objects in the order of their births, and the elements one by one.
use Rattle.ps_places.proofs.Making.{objects_made}
use Rattle.ps_places.proofs.Reading.{procedure_stands}
use Rattle.ps_places.proofs.law.places_laws.Goals as goal

pub returns-clause-objects : goal.returns-clause-objects
returns-clause-objects c = objects_made

pub returns-clause-elements : goal.returns-clause-elements
returns-clause-elements c = procedure_stands
