-- Each interval adds its steps.
use Rattle.std.proofs.Common.{◌∙◌, take, arith}
use Rattle.ps_timelines.specs.declared.columns.Interval.{Interval}
use Rattle.ps_timelines.proofs.Covering.{none_counted, counted_within, counted_more}
use Rattle.ps_timelines.proofs.lanes.count.Goals as goal

pub loop-interval-init : goal.loop-interval-init
loop-interval-init c = none_counted c.args.steps

pub overflow_add-sum : goal.overflow_add-sum
overflow_add-sum c =
    let within = counted_within c.args.steps (take c.loop-interval.interval-index c.args.intervals.now) in
    omega (arith, within, c.loop-interval.invariant)

pub loop-interval-preserved : goal.loop-interval-preserved
loop-interval-preserved c =
    let none : Interval = record { from = 0; to = 0 } in
    c.min-sum.ensures
    ∙ counted_more c.args.steps c.args.intervals.now c.loop-interval.interval-index none c.loop-interval.sum c.saturating_sub.result
    c.loop-interval-test.true c.loop-interval.invariant c.saturating_sub.ensures
