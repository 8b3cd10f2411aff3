-- Known, unknown, or a dictionary on the way can't be read.
use Rattle.std.proofs.Common.{Ok, [], ◌∷◌, refl, ap, ◌∙◌}
use Rattle.ps_mem.specs.Heap.{birth_at}
use Rattle.ps_mem.specs.Shows.{IsValue, IsWithin}
use Rattle.ps_ops_state.specs.Lent.{Lent, lent_of}
use Rattle.ps_step_outcome.specs.Turns.{IsShownWith}
use Rattle.ps_step_execute.proofs.Executing.{found_as, finds_value, finds_none, finds_closed, found_treated, unknown_raised}
use Rattle.ps_step_execute.proofs.Executing.{unreadable_raised}
use Rattle.ps_step_execute.proofs.values.execute_name.Goals as goal

pub treat-requires-clause-word : goal.treat-requires-clause-word
treat-requires-clause-word g c =
    rw c.look_up.ensures.heap
    (found_as (IsValue (g.M.Memory.heap c.args.runtime.now.memory)) c.look_up.result c.in-Ok-Some.found
    (c.in-Ok-Some.is ∙ ap Ok c.in-Ok-Some.field-0-is) c.look_up.ensures.held)

pub returns-in-Ok-Some : goal.returns-in-Ok-Some
returns-in-Ok-Some g c =
    let l : Lent = (lent_of g.M.Memory.heap g.M.Memory.grants c.args.context.now c.args.runtime.now) in
    let is = c.in-Ok-Some.is ∙ ap Ok c.in-Ok-Some.field-0-is in
    found_treated g.O.Operate.asks c.args.command c.args.word l c.args.attempt _ _
    (c.requires.name _ _) c.in-Ok-Some.found.1
    (λ s shown. found_as (IsWithin (birth_at l.heap) l.names s) c.look_up.result
    c.in-Ok-Some.found is (c.look_up.ensures.within _ s shown.shows shown.dictionaries))
    (finds_value l c.args.word c.look_up.result
    (IsShownWith (c.args.word ∷ c.args.command ∷ []) [])
    (λ s held. c.look_up.ensures.value _ s _ held.shown.shows c.requires.good.names.different
    (refl, held.words_within.0)) c.in-Ok-Some.found is)
    (rw (c.look_up.ensures.heap, c.look_up.ensures.grants) at c.treat.ensures)

pub returns-in-Ok-None : goal.returns-in-Ok-None
returns-in-Ok-None g c =
    let l : Lent = (lent_of g.M.Memory.heap g.M.Memory.grants c.args.context.now c.args.runtime.now) in
    unknown_raised g.O.Operate.asks c.args.command c.args.word l c.args.attempt _ _
    (c.requires.name _ _)
    (finds_none l c.args.word c.look_up.result
    (IsShownWith (c.args.word ∷ c.args.command ∷ []) [])
    (λ s held. c.look_up.ensures.value _ s _ held.shown.shows c.requires.good.names.different
    (refl, held.words_within.0))
    (c.in-Ok-None.is ∙ ap Ok c.in-Ok-None.field-0-is))
    (rw (c.look_up.ensures.heap, c.look_up.ensures.grants) at c.raise.ensures)

pub returns-in-Err : goal.returns-in-Err
returns-in-Err g c =
    let l : Lent = (lent_of g.M.Memory.heap g.M.Memory.grants c.args.context.now c.args.runtime.now) in
    unreadable_raised g.O.Operate.asks c.args.command c.args.word l c.args.attempt _ _
    (c.requires.name _ _)
    (finds_closed l c.args.word c.look_up.result
    (IsShownWith (c.args.word ∷ c.args.command ∷ []) [])
    (λ s held. c.look_up.ensures.value _ s _ held.shown.shows c.requires.good.names.different
    (refl, held.words_within.0)) _ c.in-Err.is)
    (rw (c.look_up.ensures.heap, c.look_up.ensures.grants) at c.raise-in-Err.ensures)
