use Rattle.ps_ops_operands.proofs.Meanings.{value-null, plain-null}
use Rattle.ps_ops_operands.proofs.plain.null.Goals as goal

pub returns-clause-value : goal.returns-clause-value
returns-clause-value c births names = value-null births names c.null.result c.null.ensures.value

pub returns-clause-plain : goal.returns-clause-plain
returns-clause-plain c = plain-null c.null.result c.null.ensures.value c.null.ensures.word
