use Rattle.std.proofs.Common.{rules, w32}
use Rattle.std.proofs.lemmas.Int.{to_z-of_z}
use mir.Val.{SFits}
use Rattle.ps_language.specs.Integers.{sum_of}
use Rattle.ps_ops_operands.proofs.NumberRows.{two_put}
use Rattle.ps_ops_operands.proofs.arithmetic.add.Goals as goal

pub returns-clause-row : goal.returns-clause-row
returns-clause-row c =
    let first : SFits w32 c.in_ok-i.i = search rules in
    let second : SFits w32 c.in_ok-i.j = search rules in
    two_put sum_of c.in_ok-i.i c.in_ok-i.j _ _ _ _ c.in_ok-i.ensures.read
    (simp to_z-of_z at c.sum_of.ensures) c.put_number.ensures.row
