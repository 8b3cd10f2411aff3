-- Frame after frame, until one doesn't go ahead.
use Rattle.std.proofs.Common.{arith, Some, None, refl, sym, ◌∙◌}
use Rattle.ps_step_interpreter.proofs.Running.{run_none}
use Rattle.ps_step.specs.Steps.{own_asks}
use Rattle.ps_step.proofs.Ahead.{runs_then, none_runs}
use Rattle.ps_step.proofs.runs.run_ahead.Goals as goal

pub loop-made-init : goal.loop-made-init
loop-made-init g c = record { within = omega arith; makes = run_none _ c.requires.good }

pub returns-then-is_some-clause-runs : goal.returns-then-is_some-clause-runs
returns-then-is_some-clause-runs g c =
    c.with_turn-run.ensures.runs g.O.Operate.asks c.args.slot _ _
    (runs_then (own_asks g.O.Operate.asks) c.args.slot c.loop-made.made c.in-Some.run'.made
    (Some c.in-Some-next.turn) _ _ _ c.loop-made.invariant.makes
    (rw c.in-Some-next.is at c.in-Some.ensures.runs)) refl

pub loop-made-preserved-in-Some-next : goal.loop-made-preserved-in-Some-next
loop-made-preserved-in-Some-next g c = record {
  within = c.with_turn-run.ensures.within;
  makes = none_runs (own_asks g.O.Operate.asks) c.args.slot c.with_turn-run.result.made
      c.with_turn-run.result.next _ _ (sym c.is_some.ensures ∙ c.if-is_some.false)
      (c.with_turn-run.ensures.runs g.O.Operate.asks c.args.slot _ _
      (runs_then (own_asks g.O.Operate.asks) c.args.slot c.loop-made.made c.in-Some.run'.made
      (Some c.in-Some-next.turn) _ _ _ c.loop-made.invariant.makes
      (rw c.in-Some-next.is at c.in-Some.ensures.runs)) refl);
}

pub loop-made-preserved : goal.loop-made-preserved
loop-made-preserved g c = record {
  within = omega (arith, c.loop-made.invariant.within, c.in-Some.ensures.within);
  makes = runs_then (own_asks g.O.Operate.asks) c.args.slot c.loop-made.made c.in-Some.run'.made
      None _ _ _ c.loop-made.invariant.makes
      (rw c.in_default-next.is at c.in-Some.ensures.runs);
}
