-- A unit is the first, or it isn't among those so far.
use Rattle.std.proofs.Common.{◌∙◌, sym}
use Rattle.ps_timelines.proofs.Units.{here, not_here, nowhere}
use Rattle.ps_timelines.proofs.pictures.first_unit.Goals as goal

pub returns-then-steps-unit : goal.returns-then-steps-unit
returns-then-steps-unit c =
    here c.args.steps c.args.units.now c.loop-unit.unit-index c.loop-unit-test.true c.if-steps-unit.true
    ∙ sym c.loop-unit.invariant

pub loop-unit-preserved : goal.loop-unit-preserved
loop-unit-preserved c =
    c.loop-unit.invariant
    ∙ not_here c.args.steps c.args.units.now c.loop-unit.unit-index c.loop-unit-test.true c.if-steps-unit.false

pub returns : goal.returns
returns c =
    sym (c.loop-unit.invariant
    ∙ nowhere c.args.steps c.args.units.now c.loop-unit.unit-index c.loop-unit-test.false)
