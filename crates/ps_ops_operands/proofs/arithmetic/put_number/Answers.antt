use Rattle.std.proofs.Common.{rules, w32}
use Rattle.std.proofs.lemmas.Int.{to_z-of_z}
use mir.Val.{SFits}
use Rattle.ps_ops_operands.proofs.NumberRows.{word_put}
use Rattle.ps_ops_operands.proofs.Sources.{from_replaced}
use Rattle.ps_ops_operands.proofs.arithmetic.put_number.Goals as goal

pub returns-clause-row : goal.returns-clause-row
returns-clause-row c =
    let fits : SFits w32 c.in-Some.number = search rules in
    word_put c.args.count c.args.number c.in-Some.number c.integer.result c.args.operands.now c.replace.new.self
    c.in-Some.is (λ births names. simp to_z-of_z at (c.integer.ensures.value births names)) c.replace.ensures

pub returns-clause-kept : goal.returns-clause-kept
returns-clause-kept c = from_replaced c.args.operands.now c.replace.new.self c.integer.result c.args.count
    c.replace.ensures c.integer.ensures.plain
