use Rattle.ps_ops_operands.proofs.Makers.{string_value_is, string_held, string_within}
use Rattle.ps_ops_operands.proofs.readers.string_word.Goals as goal

pub returns-clause-value : goal.returns-clause-value
returns-clause-value c = λ births names. string_value_is c.pack.result c.args.part c.args.executable
    c.pack.ensures.value births names

pub returns-clause-held : goal.returns-clause-held
returns-clause-held c = λ h stands. string_held c.pack.result c.args.part c.args.executable
    c.pack.ensures.value c.pack.ensures.word h stands

pub returns-clause-within : goal.returns-clause-within
returns-clause-within c = λ births names store within. string_within c.pack.result c.args.part
    c.args.executable c.pack.ensures.value births names store within
