-- The element is done over the frames that are left, which are put back where it is not made.
use Rattle.std.proofs.Common.{◌≡◌, ◌∷◌, drop, sym, ◌∙◌}
use Rattle.ps_ops_operands.proofs.Operands.{first_split}
use Rattle.ps_ops_control.specs.declared.frames.Frame.TheVariants.{Procedure}
use Rattle.ps_ops_state.specs.Lent.{Lent, lent_of}
use Rattle.ps_step_outcome.proofs.Composing.{restacked_good}
use Rattle.ps_step_frames.specs.Steps.{rest_frames}
use Rattle.ps_step_frames.proofs.Taking.{rest_good, element_made, element_unmade}
use Rattle.ps_step_frames.proofs.elements.procedure_turn.Goals as goal

pub do_element-requires-clause-good : goal.do_element-requires-clause-good
do_element-requires-clause-good g c =
    let l : Lent = lent_of g.M.Memory.heap g.M.Memory.grants c.args.context.now c.args.runtime.now in
    let top : l.frames ≡ Procedure c.args.rest ∷ drop 1 l.frames =
    first_split _ _ (sym c.requires.top) in
    rw (c.element-word.ensures.heap, c.element-word.ensures.grants, c.advance.ensures.frames)
    (restacked_good l l.operands (rest_frames c.args.rest (drop 1 l.frames))
    (rest_good l c.args.rest (drop 1 l.frames) top c.requires.good) c.requires.good)

pub returns-in-Ok : goal.returns-in-Ok
returns-in-Ok g c =
    let l : Lent = lent_of g.M.Memory.heap g.M.Memory.grants c.args.context.now c.args.runtime.now in
    element_made l c.args.rest (drop 1 l.frames) (first_split _ _ (sym c.requires.top))
    c.element-word.result (λ s shown. c.element-word.ensures.value l.names s shown.shows)
    c.requires.good (λ s shown. c.element-word.ensures.within l.names s shown.shows)
    g.O.Operate.asks c.args.attempt c.in-Ok.turned _
    (rw (
      c.element-word.ensures.heap,
      c.element-word.ensures.grants,
      c.advance.ensures.frames,
      c.in-Ok.is,
    ) at c.do_element.ensures)

pub returns-in-Err : goal.returns-in-Err
returns-in-Err g c =
    let l : Lent = lent_of g.M.Memory.heap g.M.Memory.grants c.args.context.now c.args.runtime.now in
    let top : l.frames ≡ Procedure c.args.rest ∷ drop 1 l.frames =
    first_split _ _ (sym c.requires.top) in
    let turns = rw (
      c.element-word.ensures.heap,
      c.element-word.ensures.grants,
      c.advance.ensures.frames,
      c.in-Err.is,
    ) at c.do_element.ensures in
    rw (c.put_back.ensures (drop 1 l.frames) turns.framed ∙ sym top)
    (element_unmade l c.args.rest (drop 1 l.frames) top c.element-word.result
    (λ s shown. c.element-word.ensures.value l.names s shown.shows) c.requires.good
    (λ s shown. c.element-word.ensures.within l.names s shown.shows) g.O.Operate.asks c.args.attempt
    c.in-Err.reason _ turns)
