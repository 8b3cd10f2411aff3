-- Of a string by its part.
use Rattle.std.proofs.Common.{sym, ◌∙◌, []}
use Rattle.ps_mem.specs.Meaning.{part_of, value_of}
use Rattle.ps_step_lookup.proofs.Keying.{plain_key, string_key}
use Rattle.ps_ops_values.proofs.equality.readable_text.Goals as goal

pub returns-in_default-clause-readable : goal.returns-in_default-clause-readable
returns-in_default-clause-readable c = λ births names.
    (plain_key [] (value_of births names c.args.word)
    (c.in_default.ensures.part births names)).readable

pub returns-then-not-is_readable-clause-readable : goal.returns-then-not-is_readable-clause-readable
returns-then-not-is_readable-clause-readable c = λ births names.
    (string_key [] (value_of births names c.args.word) (part_of births c.in-Some.part)
    (c.in-Some.ensures.part births names)).readable
    ∙ (sym c.is_readable.ensures ∙ c.if-not-is_readable.true)

pub returns-clause-readable : goal.returns-clause-readable
returns-clause-readable c = λ births names.
    (string_key [] (value_of births names c.args.word) (part_of births c.in-Some.part)
    (c.in-Some.ensures.part births names)).readable
    ∙ (sym c.is_readable.ensures ∙ c.if-not-is_readable.false)
