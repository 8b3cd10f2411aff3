-- Of a string by its part.
use Rattle.std.proofs.Common.{sym, ◌∙◌, []}
use Rattle.ps_mem.specs.Meaning.{part_of, value_of}
use Rattle.ps_step_lookup.proofs.Keying.{plain_key, string_key}
use Rattle.ps_step_lookup.proofs.keys.is_readable_key.Goals as goal

pub returns-in-Some : goal.returns-in-Some
returns-in-Some c = λ births names.
    (string_key [] (value_of births names c.args.word) (part_of births c.in-Some.part)
    (c.in-Some.ensures.part births names)).readable ∙ sym c.is_readable.ensures

pub returns-in-None : goal.returns-in-None
returns-in-None c = λ births names.
    (plain_key [] (value_of births names c.args.word) (c.in-None.ensures.part births names)).readable
