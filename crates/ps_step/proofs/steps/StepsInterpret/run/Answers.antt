-- Steps of frames that go ahead, and then of one that doesn't.
use Rattle.std.proofs.Common.{◌+◌, arith, sym, ◌∙◌}
use Rattle.ps_step_interpreter.proofs.Running.{run_none}
use Rattle.ps_step.specs.Steps.{own_asks}
use Rattle.ps_step.proofs.Ahead.{runs_then, none_runs}
use Rattle.ps_step.proofs.steps.StepsInterpret.run.Goals as goal

pub loop-made-init : goal.loop-made-init
loop-made-init g c = record { within = omega arith; makes = run_none _ c.requires.good }

pub returns-then-is_some-clause-runs : goal.returns-then-is_some-clause-runs
returns-then-is_some-clause-runs g c =
    runs_then (own_asks g.O.Operate.asks) c.args.slot c.loop-made.made c.run_ahead-run.result.made
    c.run_ahead-run.result.next _ _ _ c.loop-made.invariant.makes c.run_ahead-run.ensures.runs

pub returns-then-made-most-clause-runs : goal.returns-then-made-most-clause-runs
returns-then-made-most-clause-runs g c =
    none_runs (own_asks g.O.Operate.asks) c.args.slot
    (c.loop-made.made + c.run_ahead-run.result.made) c.run_ahead-run.result.next _ _
    (sym c.is_some.ensures ∙ c.if-is_some.false)
    (runs_then (own_asks g.O.Operate.asks) c.args.slot c.loop-made.made c.run_ahead-run.result.made
    c.run_ahead-run.result.next _ _ _ c.loop-made.invariant.makes c.run_ahead-run.ensures.runs)

pub returns-then-len-eq0-clause-runs : goal.returns-then-len-eq0-clause-runs
returns-then-len-eq0-clause-runs g c =
    none_runs (own_asks g.O.Operate.asks) c.args.slot
    (c.loop-made.made + c.run_ahead-run.result.made) c.run_ahead-run.result.next _ _
    (sym c.is_some.ensures ∙ c.if-is_some.false)
    (runs_then (own_asks g.O.Operate.asks) c.args.slot c.loop-made.made c.run_ahead-run.result.made
    c.run_ahead-run.result.next _ _ _ c.loop-made.invariant.makes c.run_ahead-run.ensures.runs)

pub returns-then-is_some-2-clause-runs : goal.returns-then-is_some-2-clause-runs
returns-then-is_some-2-clause-runs g c =
    runs_then (own_asks g.O.Operate.asks) c.args.slot
    (c.loop-made.made + c.run_ahead-run.result.made) c.run_turns-run.result.made
    c.run_turns-run.result.next _ _ _
    (none_runs (own_asks g.O.Operate.asks) c.args.slot
    (c.loop-made.made + c.run_ahead-run.result.made) c.run_ahead-run.result.next _ _
    (sym c.is_some.ensures ∙ c.if-is_some.false)
    (runs_then (own_asks g.O.Operate.asks) c.args.slot c.loop-made.made c.run_ahead-run.result.made
    c.run_ahead-run.result.next _ _ _ c.loop-made.invariant.makes c.run_ahead-run.ensures.runs))
    c.run_turns-run.ensures.runs

pub loop-made-preserved : goal.loop-made-preserved
loop-made-preserved g c = record {
  within = omega (
    arith,
    c.loop-made.invariant.within,
    c.run_ahead-run.ensures.within,
    c.run_turns-run.ensures.within,
  );
  makes = none_runs (own_asks g.O.Operate.asks) c.args.slot
      ((c.loop-made.made + c.run_ahead-run.result.made) + c.run_turns-run.result.made)
      c.run_turns-run.result.next _ _
      (sym c.is_some-in-loop-made.ensures ∙ c.if-is_some-2.false)
      (runs_then (own_asks g.O.Operate.asks) c.args.slot
      (c.loop-made.made + c.run_ahead-run.result.made) c.run_turns-run.result.made
      c.run_turns-run.result.next _ _ _
      (none_runs (own_asks g.O.Operate.asks) c.args.slot
      (c.loop-made.made + c.run_ahead-run.result.made) c.run_ahead-run.result.next _ _
      (sym c.is_some.ensures ∙ c.if-is_some.false)
      (runs_then (own_asks g.O.Operate.asks) c.args.slot c.loop-made.made
      c.run_ahead-run.result.made c.run_ahead-run.result.next _ _ _ c.loop-made.invariant.makes
      c.run_ahead-run.ensures.runs)) c.run_turns-run.ensures.runs);
}
