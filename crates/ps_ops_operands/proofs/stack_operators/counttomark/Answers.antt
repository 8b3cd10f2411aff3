use Rattle.std.proofs.Common.{◌<◌, ◌^◌, arith, w32}
use Rattle.std.proofs.lemmas.Int.{to_z_pos}
use Rattle.ps_ops_operands.proofs.Marks.{counttomark_done}
use Rattle.ps_ops_operands.proofs.StackRows.{push_value}
use Rattle.ps_ops_operands.proofs.stack_operators.counttomark.Goals as goal

pub returns-clause-row : goal.returns-clause-row
returns-clause-row c =
    let small : c.in-Some.depth < 2 ^ 31 = omega (arith, c.in-Some.ensures.small) in
    counttomark_done c.args.operands.now _ c.in-Some.depth _ c.in-Some.ensures.found
    (omega (arith, c.in-Some.ensures.bound))
    (push_value _ _ _ _ _
    (λ births names. rw (to_z_pos w32 c.in-Some.depth small) at (c.integer.ensures.value births names))
    c.push.ensures.row)
