-- There is room for it, or nothing is done.
use Rattle.std.proofs.Common.{arith}
use Rattle.std.proofs.lemmas.Bool.Decides.{nat_tests}
use Rattle.ps_step_execute.proofs.Pushing.{pushed_goes}
use Rattle.ps_step_execute.proofs.pushes.push_quickly.Goals as goal

pub returns : goal.returns
returns c = λ command. (
  tt,
  λ l attempt good values room.
      rw c.push_reserved.ensures
      (pushed_goes command (record l { operands = c.args.operands.now }) attempt c.args.word good values.0
      (grind (arith, nat_tests, c.is_full.ensures, c.if-is_full.false))),
)
