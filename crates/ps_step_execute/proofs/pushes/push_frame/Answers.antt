-- There is room for it, or execstackoverflow is raised.
use Rattle.std.proofs.Common.{arith}
use Rattle.std.proofs.lemmas.Bool.Decides.{nat_tests}
use Rattle.ps_step_execute.proofs.Pushing.{framed_full, framed_goes}
use Rattle.ps_step_execute.proofs.pushes.push_frame.Goals as goal

pub returns-then-is_full : goal.returns-then-is_full
returns-then-is_full g c =
    framed_full c.args.command _ c.args.attempt _ _ c.args.frame
    (grind (arith, nat_tests, c.is_full.ensures, c.if-is_full.true)) c.raise.ensures

pub returns : goal.returns
returns g c =
    rw c.push_reserved.ensures
    (framed_goes c.args.command _ c.args.attempt c.args.frame c.requires.good c.requires.frame
    (grind (arith, nat_tests, c.is_full.ensures, c.if-is_full.false)))
