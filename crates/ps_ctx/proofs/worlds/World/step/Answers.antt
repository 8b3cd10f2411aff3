-- By the call that is left, or the course.
use Rattle.std.proofs.Common.{sym}
use Rattle.ps_ctx.proofs.Resting.{rests, retakes, unretaken}
use Rattle.ps_ctx.proofs.worlds.World.step.Goals as goal

pub returns-in-Some : goal.returns-in-Some
returns-in-Some g c =
    rw (c.in-Some.is, sym (rw c.in-Some.is at c.requires.may))
    (c.call.ensures g.S.Interpret.asks)

pub returns-in-Again : goal.returns-in-Again
returns-in-Again g c = rw c.in_default.is (c.retry.ensures g.S.Interpret.asks)

pub returns-in-Ok : goal.returns-in-Ok
returns-in-Ok g c =
    rw c.in_default.is
    (retakes g.S.Interpret.asks _ (rw c.in_default.is at c.requires.steady) c.args.identifier
    c.args.attempt c.args.shown c.in-Retaking.lock (rw c.in-Retaking.is at c.course.ensures) _
    (rw c.in-Ok.is at c.retake.ensures))

pub returns-in-Err : goal.returns-in-Err
returns-in-Err g c =
    rw c.in_default.is
    (unretaken g.S.Interpret.asks _ (rw c.in_default.is at c.requires.steady) c.args.identifier
    c.args.attempt c.args.shown c.in-Retaking.lock (rw c.in-Retaking.is at c.course.ensures) _
    c.in-Err.reason (rw c.in-Err.is at c.retake.ensures))

pub returns-in-Waiting : goal.returns-in-Waiting
returns-in-Waiting g c =
    rw c.in_default.is
    (rests g.S.Interpret.asks _ (rw c.in_default.is at c.requires.steady) c.args.identifier
    c.args.attempt c.args.shown _ (rw c.in-Waiting.is at c.course.ensures) tt)

pub returns-in-Finished : goal.returns-in-Finished
returns-in-Finished g c =
    rw c.in_default.is
    (rests g.S.Interpret.asks _ (rw c.in_default.is at c.requires.steady) c.args.identifier
    c.args.attempt c.args.shown _ (rw c.in-Finished.is at c.course.ensures) tt)
