use Rattle.ps_ops_operands.proofs.Meanings.{value-boolean, plain-boolean}
use Rattle.ps_ops_operands.proofs.plain.boolean.Goals as goal

pub returns-clause-value : goal.returns-clause-value
returns-clause-value c births names = value-boolean births names c.boolean.result c.args.truth c.boolean.ensures.value

pub returns-clause-plain : goal.returns-clause-plain
returns-clause-plain c = plain-boolean c.boolean.result c.args.truth c.boolean.ensures.value c.boolean.ensures.word
