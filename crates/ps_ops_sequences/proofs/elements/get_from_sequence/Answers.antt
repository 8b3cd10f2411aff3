-- By the type of what is read.
use Rattle.std.proofs.Common.{sym, ◌∙◌}
use Rattle.ps_ops_state.proofs.Alike.{came_acts, effect_acts}
use Rattle.ps_ops_state.proofs.Lifts.{observes_acts}
use Rattle.ps_ops_sequences.proofs.ElementRows.{get_from_array, get_from_string}
use Rattle.ps_ops_sequences.proofs.elements.get_from_sequence.Goals as goal

pub returns-then-is_string_at-clause-acts : goal.returns-then-is_string_at-clause-acts
returns-then-is_string_at-clause-acts g c =
    λ attempt. came_acts attempt _ _ _ _ _ _ c.made.ensures (effect_acts attempt _ _ _ _ _ _
    (get_from_string _ (sym c.is_string_at.ensures ∙ c.if-is_string_at.true))
    (observes_acts _ c.requires.good attempt _ _ _ _ _ c.get.ensures.heap c.get.ensures.grants
    c.get.ensures.does c.get.ensures.ready))

pub returns-else-is_string_at-clause-acts : goal.returns-else-is_string_at-clause-acts
returns-else-is_string_at-clause-acts g c = λ attempt. came_acts attempt _ _ _ _ _ _ c.made-else-is_string_at.ensures
    (effect_acts attempt _ _ _ _ _ _
    (get_from_array _ (sym c.is_string_at.ensures ∙ c.if-is_string_at.false) c.requires.below)
    (observes_acts _ c.requires.good attempt _ _ _ _ _ c.get-else-is_string_at.ensures.heap
    c.get-else-is_string_at.ensures.grants c.get-else-is_string_at.ensures.does
    c.get-else-is_string_at.ensures.ready))
