-- A line more, each time.
use Rattle.std.proofs.Common.{arith}
use Rattle.ps_views.specs.Places.{caller_text}
use Rattle.ps_views.proofs.Callers.{front_through, each_more, each_full, given_err}
use Rattle.ps_views.proofs.places.append_each.Goals as goal

pub returns-in_err-append_caller-clause-front : goal.returns-in_err-append_caller-clause-front
returns-in_err-append_caller-clause-front c =
    front_through c.args.to.now.items c.loop-caller.to.items c.append_caller.new.to.items c.loop-caller.invariant.front
    c.append_caller.ensures.front

pub returns-in_err-append_caller-clause-full : goal.returns-in_err-append_caller-clause-full
returns-in_err-append_caller-clause-full c =
    given_err c.from_residual.result (each_full (caller_text c.args.file.now) c.args.callers.now c.loop-caller.caller-index _ _ _
    c.args.to.now.items c.loop-caller.to.items c.loop-caller-test.true c.loop-caller.invariant.is
    c.loop-caller.invariant.capacity c.in_err-append_caller.ensures.full)

pub loop-caller-preserved : goal.loop-caller-preserved
loop-caller-preserved c = record {
  is = each_more (caller_text c.args.file.now) c.args.callers.now c.loop-caller.caller-index _ c.args.to.now.items
      c.loop-caller.to.items c.append_caller.new.to.items c.loop-caller-test.true c.loop-caller.invariant.is
      c.in_ok-append_caller.ensures.appended;
  front = front_through c.args.to.now.items c.loop-caller.to.items c.append_caller.new.to.items
      c.loop-caller.invariant.front c.append_caller.ensures.front;
  capacity = omega (arith, c.loop-caller.invariant.capacity, c.append_caller.ensures.capacity);
}
