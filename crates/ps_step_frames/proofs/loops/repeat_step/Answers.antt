-- A turn over operands and frames, with the error that it raises.
use Rattle.ps_ops_state.proofs.Lifts.{ready}
use Rattle.ps_language.specs.declared.operators.Operator.TheVariants.{Repeat as TheOperator}
use Rattle.ps_step_outcome.proofs.Composing.{restacked_good}
use Rattle.ps_step_frames.proofs.Settling.{settled_good, settles}
use Rattle.ps_step_frames.proofs.loops.repeat_step.Goals as goal

pub settle-requires : goal.settle-requires
settle-requires g c = record {
  good =
      restacked_good _ _ _ (settled_good _ TheOperator _ _ _
      (c.repeat_turn-outcome.ensures.turns _ _ (ready c.requires.good))) c.requires.good;
}

pub returns : goal.returns
returns g c =
    settles _ c.requires.good c.args.attempt TheOperator _ _ _
    (c.repeat_turn-outcome.ensures.turns _ _ (ready c.requires.good)) _ _
    c.repeat_turn-outcome.ensures.operands c.repeat_turn-outcome.ensures.frames
    c.settle.ensures.goes c.settle.ensures.turns
