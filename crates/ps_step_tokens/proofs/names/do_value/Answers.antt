-- The value is known, unknown, or a dictionary on the way can't be read.
use Rattle.std.proofs.Common.{Ok, refl, ap, ◌∙◌}
use Rattle.ps_mem.specs.Heap.{birth_at}
use Rattle.ps_mem.specs.Shows.{IsValue, IsWithin}
use Rattle.ps_ops_state.specs.Lent.{Lent, IsShown, lent_of}
use Rattle.ps_step_execute.proofs.Executing.{found_as, finds_value, finds_none, finds_closed}
use Rattle.ps_step_tokens.proofs.Doing.{value_done, value_unknown, value_unreadable}
use Rattle.ps_step_tokens.proofs.names.do_value.Goals as goal

pub do_element-requires-clause-word : goal.do_element-requires-clause-word
do_element-requires-clause-word g c =
    rw c.look_up.ensures.heap
    (found_as (IsValue (g.M.Memory.heap c.args.runtime.now.memory)) c.look_up.result c.in-Ok-Some.found
    (c.in-Ok-Some.is ∙ ap Ok c.in-Ok-Some.field-0-is) c.look_up.ensures.held)

pub returns-in-Ok-Some : goal.returns-in-Ok-Some
returns-in-Ok-Some g c =
    let l : Lent = (lent_of g.M.Memory.heap g.M.Memory.grants c.args.context.now c.args.runtime.now) in
    let is = c.in-Ok-Some.is ∙ ap Ok c.in-Ok-Some.field-0-is in
    value_done l c.args.word c.requires.word c.args.attempt _ _ g.O.Operate.asks
    c.in-Ok-Some.found.1
    (λ s shown. found_as (IsWithin (birth_at l.heap) l.names s) c.look_up.result
    c.in-Ok-Some.found is (c.look_up.ensures.within _ s shown.shows shown.dictionaries))
    (finds_value l c.args.word c.look_up.result IsShown (λ s shown. c.look_up.ensures.value _ s _
    shown.shows c.requires.good.names.different (refl, c.requires.word.within s shown))
    c.in-Ok-Some.found is)
    (rw (c.look_up.ensures.heap, c.look_up.ensures.grants) at c.do_element.ensures)

pub returns-in-Ok-None : goal.returns-in-Ok-None
returns-in-Ok-None g c =
    let l : Lent = (lent_of g.M.Memory.heap g.M.Memory.grants c.args.context.now c.args.runtime.now) in
    value_unknown l c.args.word c.requires.word c.args.attempt _ _ g.O.Operate.asks
    (finds_none l c.args.word c.look_up.result IsShown (λ s shown. c.look_up.ensures.value _ s _
    shown.shows c.requires.good.names.different (refl, c.requires.word.within s shown))
    (c.in-Ok-None.is ∙ ap Ok c.in-Ok-None.field-0-is))
    (rw (c.look_up.ensures.heap, c.look_up.ensures.grants) at c.raise.ensures)

pub returns-in-Err : goal.returns-in-Err
returns-in-Err g c =
    let l : Lent = (lent_of g.M.Memory.heap g.M.Memory.grants c.args.context.now c.args.runtime.now) in
    value_unreadable l c.args.word c.requires.word c.args.attempt _ _ g.O.Operate.asks
    (finds_closed l c.args.word c.look_up.result IsShown (λ s shown. c.look_up.ensures.value _ s _
    shown.shows c.requires.good.names.different (refl, c.requires.word.within s shown)) _ c.in-Err.is)
    (rw (c.look_up.ensures.heap, c.look_up.ensures.grants) at c.raise-in-Err.ensures)
