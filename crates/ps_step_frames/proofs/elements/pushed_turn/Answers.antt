-- The frame is pushed.
use Rattle.std.proofs.Common.{refl}
use Rattle.ps_step_frames.proofs.elements.pushed_turn.Goals as goal

pub element_turn-requires-clause-element : goal.element_turn-requires-clause-element
element_turn-requires-clause-element g c = rw c.in-Some.is at c.requires.first

pub procedure_turn-requires-clause-good : goal.procedure_turn-requires-clause-good
procedure_turn-requires-clause-good g c = rw c.push_frame.ensures c.requires.good

pub procedure_turn-requires-clause-top : goal.procedure_turn-requires-clause-top
procedure_turn-requires-clause-top g c = rw c.push_frame.ensures refl

pub returns-in-None : goal.returns-in-None
returns-in-None g c = rw c.push_frame.ensures at c.procedure_turn.ensures
