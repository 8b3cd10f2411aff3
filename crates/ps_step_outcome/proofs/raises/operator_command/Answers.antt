-- The word of an operator is its command in every memory.
use Rattle.ps_step_outcome.proofs.Valued.{operator_met, operator_held, operator_within}
use Rattle.ps_step_outcome.proofs.raises.operator_command.Goals as goal

pub returns-clause-value : goal.returns-clause-value
returns-clause-value c = λ births names. operator_met _ _ c.pack.ensures.value births names

pub returns-clause-held : goal.returns-clause-held
returns-clause-held c = λ h. operator_held _ _ c.pack.ensures.value h c.pack.ensures.word

pub returns-clause-within : goal.returns-clause-within
returns-clause-within c = λ births names s. operator_within _ _ c.pack.ensures.value births names s
