use Rattle.ps_ops_operands.proofs.Meanings.{value-mark, plain-mark}
use Rattle.ps_ops_operands.proofs.plain.mark.Goals as goal

pub returns-clause-value : goal.returns-clause-value
returns-clause-value c births names = value-mark births names c.mark.result c.mark.ensures.value

pub returns-clause-plain : goal.returns-clause-plain
returns-clause-plain c = plain-mark c.mark.result c.mark.ensures.value c.mark.ensures.word
