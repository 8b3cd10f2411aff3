-- Of each identifier it was looked.
use Rattle.std.proofs.Common.{arith}
use Rattle.ps_worlds.specs.Runs.{standing}
use Rattle.ps_worlds.proofs.Following.{looked}
use Rattle.ps_worlds.proofs.runs.WorldRun.look.Goals as goal

pub returns-clause-ready : goal.returns-clause-ready
returns-clause-ready g c =
    let made = c.made-made.ensures.made in
    let within = c.made-made.ensures.within in
    let past = c.loop-place-test.false in
    let end = c.loop-place.auto.place-end in
    looked (standing g.M.Memory.heap g.M.Memory.grants c.loop-place.self)
    (standing g.M.Memory.heap g.M.Memory.grants c.args.self.now).held c.loop-place.place
    c.loop-place.invariant.held c.loop-place.invariant.count (omega (arith, made, past, end))
    (omega (arith, within, end)) c.loop-place.invariant.each
