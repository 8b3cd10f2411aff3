use Rattle.std.proofs.Common.{sym, ◌∙◌}
use Rattle.ps_mem.specs.Meaning.{value_of, part_of}
use Rattle.ps_ops_values.proofs.CvsRow.{string_text}
use Rattle.ps_ops_values.proofs.texts.readable_part.Goals as goal

pub returns-in-Some-clause-text : goal.returns-in-Some-clause-text
returns-in-Some-clause-text c = λ births names s.
    string_text s (value_of births names c.args.word) (part_of births c.in-Some.part)
    (c.in-Some.ensures.part births names) (sym c.is_readable.ensures ∙ c.if-is_readable.true)
