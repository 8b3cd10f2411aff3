-- The value is treated without the frame of its procedure.
use Rattle.ps_step_frames.proofs.Unframed.{good_below, does_under}
use Rattle.ps_step_frames.proofs.elements.element_under.Goals as goal

pub treat_under-requires-clause-good : goal.treat_under-requires-clause-good
treat_under-requires-clause-good g c = good_below _ c.args.rest c.requires.good

pub treat_under-requires-clause-word : goal.treat_under-requires-clause-word
treat_under-requires-clause-word g c =
    let is = rw c.in-Some.is at c.requires.first in
    is.value_held.word

pub returns-in-Some-clause-does : goal.returns-in-Some-clause-does
returns-in-Some-clause-does g c =
    does_under g.O.Operate.asks _ _ c.args.rest c.in-Some.element c.requires.good
    (rw c.in-Some.is at c.requires.first) c.args.slot c.treat_under.result
    c.treat_under.ensures.goes
