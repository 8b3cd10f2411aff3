-- By the topmost operand.
use Rattle.std.proofs.Common.{sym, ◌∙◌}
use Rattle.ps_language.specs.declared.errors.ErrorName.TheVariants.{StackUnderflow, TypeCheck}
use Rattle.ps_ops_state.proofs.Acting.{raised_acts}
use Rattle.ps_ops_state.proofs.Alike.{asked_acts}
use Rattle.ps_ops.proofs.Copied.{none_topmost, empty_asks, copy_other_asks, copy_pairs_asks, alone_raises}
use Rattle.ps_ops.proofs.Copied.{unlike_raises}
use Rattle.ps_ops.proofs.joins.copy.Goals as goal

pub copy_sequence-requires-clause-topmost : goal.copy_sequence-requires-clause-topmost
copy_sequence-requires-clause-topmost g c =
    none_topmost _ (sym c.in_default.is ∙ c.top.ensures)

pub returns-in_default : goal.returns-in_default
returns-in_default g c =
    asked_acts _ _ _ _ _ _ _ (empty_asks _ (sym c.in_default.is ∙ c.top.ensures))
    c.copy_sequence.ensures

pub returns-in_default-peek : goal.returns-in_default-peek
returns-in_default-peek g c =
    raised_acts _ _ _ _ c.requires.good StackUnderflow
    (alone_raises _ _ c.in-Some.ensures _ c.in-Some-as_dictionary.ensures c.in_default-peek.ensures)

pub returns-in_default-as_dictionary : goal.returns-in_default-as_dictionary
returns-in_default-as_dictionary g c =
    asked_acts _ _ _ _ _ _ _
    (copy_other_asks _ _ c.in-Some.ensures c.in_default-as_dictionary.ensures)
    c.copy_sequence-in_default-as_dictionary.ensures

pub returns-in_default-as_dictionary-2 : goal.returns-in_default-as_dictionary-2
returns-in_default-as_dictionary-2 g c =
    raised_acts _ _ _ _ c.requires.good TypeCheck
    (unlike_raises _ _ c.in-Some.ensures _ c.in-Some-as_dictionary.ensures _ c.in-Some-peek.ensures
    c.in_default-as_dictionary-2.ensures)

pub returns : goal.returns
returns g c =
    asked_acts _ _ _ _ _ _ _
    (copy_pairs_asks _ _ c.in-Some.ensures _ c.in-Some-as_dictionary.ensures)
    c.copy_dictionary.ensures.acts
