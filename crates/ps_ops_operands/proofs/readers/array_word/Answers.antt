use Rattle.ps_ops_operands.proofs.Makers.{array_value_is, array_held, array_within}
use Rattle.ps_ops_operands.proofs.readers.array_word.Goals as goal

pub returns-clause-value : goal.returns-clause-value
returns-clause-value c =
    λ births names. array_value_is c.pack.result c.args.part c.args.executable c.pack.ensures.value births names

pub returns-clause-held : goal.returns-clause-held
returns-clause-held c = λ h stands. array_held c.pack.result c.args.part c.args.executable c.pack.ensures.value
    c.pack.ensures.word h stands

pub returns-clause-within : goal.returns-clause-within
returns-clause-within c =
    λ births names store. array_within c.pack.result c.args.part c.args.executable c.pack.ensures.value births names
    store
