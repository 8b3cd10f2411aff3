-- An executable array, or none.
use Rattle.std.proofs.Common.{◌∙◌, sym}
use Rattle.ps_ops_control.proofs.Reading.{procedure-literal, procedure-executable}
use Rattle.ps_ops_control.proofs.readers.procedure_of.Goals as goal

pub returns-then-not-is_executable-clause-part : goal.returns-then-not-is_executable-clause-part
returns-then-not-is_executable-clause-part c =
    λ births names. procedure-literal births names c.args.word (sym c.is_executable.ensures
    ∙ c.if-not-is_executable.true)

pub returns-clause-part : goal.returns-clause-part
returns-clause-part c = λ births names. procedure-executable births names c.args.word (sym c.is_executable.ensures
    ∙ c.if-not-is_executable.false) ∙ c.array_of.ensures.part births names
