-- By the third operand.
use Rattle.std.proofs.Common.{sym, ◌∙◌}
use Rattle.ps_ops_state.proofs.Alike.{asked_acts}
use Rattle.ps_ops.proofs.Joining.{short_asks, dictionary_asks, sequence_asks}
use Rattle.ps_ops.proofs.joins.put.Goals as goal

pub returns-in_default-clause-acts : goal.returns-in_default-clause-acts
returns-in_default-clause-acts g c =
    asked_acts _ _ _ _ _ _ _ (short_asks _ (sym c.in_default.is ∙ c.top_three.ensures))
    c.put_into_sequence.ensures.acts

pub returns-in-Some-as_dictionary-clause-acts : goal.returns-in-Some-as_dictionary-clause-acts
returns-in-Some-as_dictionary-clause-acts g c =
    asked_acts _ _ _ _ _ _ _
    (dictionary_asks _ _ _ _ c.in-Some.ensures _ c.in-Some-as_dictionary.ensures)
    c.put_into_dictionary.ensures.acts

pub returns-in-None-clause-acts : goal.returns-in-None-clause-acts
returns-in-None-clause-acts g c =
    asked_acts _ _ _ _ _ _ _
    (sequence_asks _ _ _ _ c.in-Some.ensures (sym c.in-None.is ∙ c.as_dictionary.ensures))
    c.put_into_sequence-in-None.ensures.acts
