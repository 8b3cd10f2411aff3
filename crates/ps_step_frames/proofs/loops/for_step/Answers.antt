-- A turn over operands and frames, with the error that it raises.
use Rattle.std.proofs.Common.{sym}
use Rattle.ps_language.specs.declared.operators.Operator.TheVariants.{For as TheOperator}
use Rattle.ps_ops_operands.proofs.Held.{first_held}
use Rattle.ps_ops_control.specs.Frames.{IsFrame}
use Rattle.ps_ops_state.proofs.Lifts.{ready}
use Rattle.ps_step_outcome.proofs.Composing.{restacked_good}
use Rattle.ps_step_frames.proofs.Settling.{settled_good, settles}
use Rattle.ps_step_frames.proofs.loops.for_step.Goals as goal

pub for_turn-outcome-requires-clause-course : goal.for_turn-outcome-requires-clause-course
for_turn-outcome-requires-clause-course g c =
    (first_held (IsFrame _ _) _ c.requires.good.frames _ (sym c.requires.top)).1

pub settle-requires : goal.settle-requires
settle-requires g c = record {
  good =
      restacked_good _ _ _ (settled_good _ TheOperator _ _ _
      (c.for_turn-outcome.ensures.turns _ _ (ready c.requires.good))) c.requires.good;
}

pub returns : goal.returns
returns g c =
    settles _ c.requires.good c.args.attempt TheOperator _ _ _
    (c.for_turn-outcome.ensures.turns _ _ (ready c.requires.good)) _ _
    c.for_turn-outcome.ensures.operands c.for_turn-outcome.ensures.frames c.settle.ensures.goes
    c.settle.ensures.turns
