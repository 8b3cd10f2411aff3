-- By the type of the second.
use Rattle.std.proofs.Common.{ap, ◌∙◌}
use Rattle.std.specs.Prelude.{option_map}
use Rattle.ps_language.specs.Value.{Part}
use Rattle.ps_mem.specs.Meaning.{part_of, value_of}
use Rattle.ps_ops_sequences.proofs.PairRows.{pair_of_arrays, pair_of_strings, pair_of_neither}
use Rattle.ps_ops_sequences.proofs.pairs.pair_of.Goals as goal

pub returns-in-Some-array_of-clause-parts : goal.returns-in-Some-array_of-clause-parts
returns-in-Some-array_of-clause-parts c = λ births names.
    pair_of_arrays (value_of births names c.args.source) (value_of births names c.args.target) _
    (c.in-Some.ensures.part births names)
    ∙ ap (option_map (λ (p : Part). (p, part_of births c.in-Some.to)))
    (c.in-Some-array_of.ensures.part births names)

pub returns-in-None-clause-parts : goal.returns-in-None-clause-parts
returns-in-None-clause-parts c = λ births names.
    pair_of_arrays (value_of births names c.args.source) (value_of births names c.args.target) _
    (c.in-Some.ensures.part births names)
    ∙ ap (option_map (λ (p : Part). (p, part_of births c.in-Some.to)))
    (c.in-None.ensures.part births names)

pub returns-in_default-string_of-clause-parts : goal.returns-in_default-string_of-clause-parts
returns-in_default-string_of-clause-parts c = λ births names.
    pair_of_neither (value_of births names c.args.source) (value_of births names c.args.target)
    (c.in_default.ensures.part births names) (c.in_default-string_of.ensures.part births names)

pub returns-in-Some-string_of-2-clause-parts : goal.returns-in-Some-string_of-2-clause-parts
returns-in-Some-string_of-2-clause-parts c = λ births names.
    pair_of_strings (value_of births names c.args.source) (value_of births names c.args.target) _
    (c.in-Some-string_of.ensures.part births names)
    ∙ ap (option_map (λ (p : Part). (p, part_of births c.in-Some-string_of.to)))
    (c.in-Some-string_of-2.ensures.part births names)

pub returns-in-None-string_of-clause-parts : goal.returns-in-None-string_of-clause-parts
returns-in-None-string_of-clause-parts c = λ births names.
    pair_of_strings (value_of births names c.args.source) (value_of births names c.args.target) _
    (c.in-Some-string_of.ensures.part births names)
    ∙ ap (option_map (λ (p : Part). (p, part_of births c.in-Some-string_of.to)))
    (c.in-None-string_of.ensures.part births names)
