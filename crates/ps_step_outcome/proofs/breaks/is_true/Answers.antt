-- By the boolean that it is.
use Rattle.std.proofs.Common.{◌∙◌}
use Rattle.ps_step_outcome.proofs.Truths.{truth_some, truth_none}
use Rattle.ps_step_outcome.proofs.breaks.is_true.Goals as goal

pub returns-in-Some : goal.returns-in-Some
returns-in-Some c = λ births names.
    truth_some _ _ (c.boolean_of.ensures births names ∙ c.in-Some.is)

pub returns-in-None : goal.returns-in-None
returns-in-None c = λ births names.
    truth_none _ (c.boolean_of.ensures births names ∙ c.in-None.is)
