-- There is room for it, or stackoverflow is raised.
use Rattle.std.proofs.Common.{arith}
use Rattle.std.proofs.lemmas.Bool.Decides.{nat_tests}
use Rattle.ps_step_frames.proofs.Settling.{truth_full, truth_pushed}
use Rattle.ps_step_frames.proofs.loops.push_truth.Goals as goal

pub returns-then-is_full : goal.returns-then-is_full
returns-then-is_full g c =
    truth_full _ c.args.attempt c.args.truth
    (grind (arith, nat_tests, c.is_full.ensures, c.if-is_full.true)) _ _ c.raise_by.ensures

pub returns : goal.returns
returns g c =
    rw c.push_reserved.ensures
    (truth_pushed _ c.args.attempt c.args.truth c.requires.good
    (grind (arith, nat_tests, c.is_full.ensures, c.if-is_full.false)) c.boolean.result
    c.boolean.ensures.value c.boolean.ensures.plain)
