-- By the type of what is shared.
use Rattle.std.proofs.Common.{refl, sym, ◌∙◌}
use Rattle.ps_ops_state.proofs.Alike.{came_acts, effect_acts}
use Rattle.ps_ops_state.proofs.Lifts.{observes_acts}
use Rattle.ps_ops_sequences.proofs.IntervalRows.{interval_of_array, interval_of_string}
use Rattle.ps_ops_sequences.proofs.intervals.getinterval.Goals as goal

pub returns-then-is_string_at : goal.returns-then-is_string_at
returns-then-is_string_at g c = record {
  acts = λ attempt. came_acts attempt _ _ _ _ _ _ c.made.ensures (effect_acts attempt _ _ _ _ _ _
      (interval_of_string _ (sym c.is_string_at.ensures ∙ c.if-is_string_at.true))
      (observes_acts _ c.requires.good attempt _ _ _ _ _ refl refl c.getinterval.ensures.does
      c.getinterval.ensures.ready));
  frames = refl;
}

pub returns-else-is_string_at : goal.returns-else-is_string_at
returns-else-is_string_at g c = record {
  acts = λ attempt. came_acts attempt _ _ _ _ _ _ c.made-else-is_string_at.ensures
      (effect_acts attempt _ _ _ _ _ _
      (interval_of_array _ (sym c.is_string_at.ensures ∙ c.if-is_string_at.false))
      (observes_acts _ c.requires.good attempt _ _ _ _ _ refl refl
      c.getinterval-else-is_string_at.ensures.does c.getinterval-else-is_string_at.ensures.ready));
  frames = refl;
}
