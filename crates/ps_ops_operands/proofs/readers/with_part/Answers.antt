use Rattle.std.proofs.Common.{◌∙◌, ap}
use Rattle.ps_language.specs.Value.{array_value}
use Rattle.ps_mem.specs.Meaning.{part_of}
use Rattle.ps_ops_operands.proofs.Makers.{with_part-is}
use Rattle.ps_ops_operands.proofs.readers.with_part.Goals as goal

pub returns-clause-value : goal.returns-clause-value
returns-clause-value c = λ births names.
    c.array_word.ensures.value births names
    ∙ (ap (λ e. record { what = array_value (part_of births c.args.part); executable = e }) c.is_executable.ensures
    ∙ with_part-is births names c.args.array c.args.part c.args.old c.requires.array)
