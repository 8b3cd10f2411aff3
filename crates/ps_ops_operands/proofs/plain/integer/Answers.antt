use Rattle.std.proofs.Common.{rules, w32}
use Rattle.std.proofs.lemmas.Int.{to_z-of_z}
use mir.Val.{SFits}
use Rattle.ps_ops_operands.proofs.Meanings.{value-integer, plain-integer}
use Rattle.ps_ops_operands.proofs.plain.integer.Goals as goal

pub returns-clause-value : goal.returns-clause-value
returns-clause-value c births names =
    let fits : SFits w32 c.args.number = search rules in
    value-integer births names c.integer.result c.args.number (simp to_z-of_z at c.integer.ensures.value)

pub returns-clause-plain : goal.returns-clause-plain
returns-clause-plain c = plain-integer c.integer.result _ c.integer.ensures.value c.integer.ensures.word
