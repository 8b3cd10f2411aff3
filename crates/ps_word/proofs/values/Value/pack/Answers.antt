use Rattle.std.proofs.Common.{ap, sym, ◌∙◌, subst}
use Rattle.ps_word.specs.Format.{value_in, IsWord}
use Rattle.ps_word.proofs.Packing.{packed-parts, value_in-packed, IsWord-packed}
use Rattle.ps_word.proofs.values.Value.pack.Goals as goal

pub returns-clause-number : goal.returns-clause-number
returns-clause-number c =
    packed-parts c.args.self c.type_number.result c.content_bits.result c.type_number.ensures c.content_bits.ensures

pub returns-clause-value : goal.returns-clause-value
returns-clause-value c =
    ap value_in (packed-parts c.args.self c.type_number.result c.content_bits.result c.type_number.ensures
    c.content_bits.ensures) ∙ value_in-packed c.args.self c.requires

pub returns-clause-word : goal.returns-clause-word
returns-clause-word c =
    subst IsWord (sym (packed-parts c.args.self c.type_number.result c.content_bits.result c.type_number.ensures
    c.content_bits.ensures)) (IsWord-packed c.args.self c.requires)
