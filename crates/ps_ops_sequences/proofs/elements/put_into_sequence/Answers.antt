-- By the type of what is written.
use Rattle.std.proofs.Common.{sym, ◌∙◌}
use Rattle.ps_ops_state.proofs.Alike.{came_acts, effect_acts}
use Rattle.ps_ops_state.proofs.Changing.{changes_acts}
use Rattle.ps_ops_sequences.proofs.ArrayPuts.{put_unasked, put_lasts}
use Rattle.ps_ops_sequences.proofs.ElementRows.{put_into_array, put_into_string}
use Rattle.ps_ops_sequences.proofs.StringPuts.{string_put_unasked, string_put_lasts}
use Rattle.ps_ops_sequences.proofs.elements.put_into_sequence.Goals as goal

pub returns-then-is_string_at-clause-acts : goal.returns-then-is_string_at-clause-acts
returns-then-is_string_at-clause-acts g c = came_acts _ _ _ _ _ _ _ c.tried.ensures (effect_acts _ _ _ _ _ _ _
    (put_into_string _ (sym c.is_string_at.ensures ∙ c.if-is_string_at.true))
    (changes_acts _ c.requires.good _ _ _ _ c.put.ensures.keeps _ _ _ string_put_unasked
    (λ store shown. string_put_lasts _ _ store shown.shows _ c.requires.good.operands
    shown.operands) c.put.ensures.does c.put.ensures.ready (λ names. c.put.ensures.spends)))

pub returns-else-is_string_at-clause-acts : goal.returns-else-is_string_at-clause-acts
returns-else-is_string_at-clause-acts g c = came_acts _ _ _ _ _ _ _ c.tried-else-is_string_at.ensures
    (effect_acts _ _ _ _ _ _ _
    (put_into_array _ (sym c.is_string_at.ensures ∙ c.if-is_string_at.false) c.requires.below)
    (changes_acts _ c.requires.good _ _ _ _ c.put-else-is_string_at.ensures.keeps _ _ _ put_unasked
    (λ store shown. put_lasts _ _ store shown.shows _ c.requires.good.operands)
    c.put-else-is_string_at.ensures.does c.put-else-is_string_at.ensures.ready
    (λ names. c.put-else-is_string_at.ensures.spends)))
