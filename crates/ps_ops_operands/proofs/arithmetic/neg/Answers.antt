use Rattle.std.proofs.Common.{rules, w32}
use Rattle.std.proofs.lemmas.Int.{to_z-of_z}
use mir.Val.{SFits}
use Rattle.ps_language.specs.Integers.{negative_of}
use Rattle.ps_ops_operands.proofs.NumberRows.{one_put}
use Rattle.ps_ops_operands.proofs.arithmetic.neg.Goals as goal

pub returns-clause-row : goal.returns-clause-row
returns-clause-row c =
    let only : SFits w32 c.in_ok-i.i = search rules in
    one_put negative_of c.in_ok-i.i _ _ _ _ c.in_ok-i.ensures.read
    (simp to_z-of_z at c.negative_of.ensures) c.put_number.ensures.row
