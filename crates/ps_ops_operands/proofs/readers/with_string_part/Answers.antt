use Rattle.std.proofs.Common.{◌∙◌, ap}
use Rattle.ps_language.specs.Value.{string_value}
use Rattle.ps_mem.specs.Meaning.{part_of}
use Rattle.ps_ops_operands.proofs.Makers.{with_string_part-is}
use Rattle.ps_ops_operands.proofs.readers.with_string_part.Goals as goal

pub returns-clause-value : goal.returns-clause-value
returns-clause-value c = λ births names.
    c.string_word.ensures.value births names
    ∙ (ap (λ e. record { what = string_value (part_of births c.args.part); executable = e })
    c.is_executable.ensures
    ∙ with_string_part-is births names c.args.string c.args.part c.args.old c.requires.string)
