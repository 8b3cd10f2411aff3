-- The element is there, or the place is past the last.
use Rattle.std.proofs.Common.{arith}
use Rattle.ps_step_execute.proofs.Executing.{array_held}
use Rattle.ps_step_frames.proofs.Placing.{past_elements, element_pushed}
use Rattle.ps_step_frames.proofs.places.element_at.Goals as goal

pub element-requires-clause-known : goal.element-requires-clause-known
element-requires-clause-known g c =
    (array_held _ c.args.over c.args.part c.requires.held c.requires.array).stands

pub returns-then-at-part-clause-pushed : goal.returns-then-at-part-clause-pushed
returns-then-at-part-clause-pushed g c =
    past_elements _ c.args.over c.args.at c.args.part c.requires.array (omega arith)

pub returns-clause-pushed : goal.returns-clause-pushed
returns-clause-pushed g c =
    element_pushed _ c.args.over c.args.at c.args.part c.requires.array (omega arith)
    c.element.result c.element.ensures.held c.element.ensures.within c.element.ensures.value
