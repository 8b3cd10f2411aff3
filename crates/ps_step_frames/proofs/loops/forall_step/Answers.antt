-- A turn over operands and frames, with the error that it raises, or its end.
use Rattle.std.proofs.Common.{drop, sym}
use Rattle.ps_language.specs.declared.operators.Operator.TheVariants.{Forall as TheOperator}
use Rattle.ps_ops_control.proofs.Loops.{forall_ends}
use Rattle.ps_ops_state.specs.Lent.{Lent, lent_of}
use Rattle.ps_ops_state.proofs.Lifts.{ready}
use Rattle.ps_step_outcome.proofs.Composing.{restacked_good}
use Rattle.ps_step_frames.proofs.Settling.{settled_good, settles, went}
use Rattle.ps_step_frames.proofs.loops.forall_step.Goals as goal

pub settle-requires : goal.settle-requires
settle-requires g c = record {
  good =
      rw (c.operands_at.ensures.heap, c.operands_at.ensures.grants)
      (restacked_good _ _ _ (settled_good _ TheOperator _ _ _
      (c.forall_turn-outcome.ensures.turns _ _ (ready c.requires.good) c.in-Some.ensures.pushed))
      c.requires.good);
}

pub returns-in-None : goal.returns-in-None
returns-in-None g c =
    let l : Lent = lent_of g.M.Memory.heap g.M.Memory.grants c.args.context.now c.args.runtime.now in
    rw (c.operands_at.ensures.heap, c.operands_at.ensures.grants, c.drop_top.ensures.frames)
    (went l c.requires.good c.args.attempt TheOperator l.operands (drop 1 l.frames)
    (forall_ends l.heap _ l.operands l.frames (ready c.requires.good) c.args.state.over c.args.state.at
    c.args.state.body (sym c.requires.top) c.in-None.ensures.pushed))

pub returns-in-Some : goal.returns-in-Some
returns-in-Some g c =
    settles _ c.requires.good c.args.attempt TheOperator _ _ _
    (c.forall_turn-outcome.ensures.turns _ _ (ready c.requires.good) c.in-Some.ensures.pushed) _ _
    c.forall_turn-outcome.ensures.operands c.forall_turn-outcome.ensures.frames
    c.settle.ensures.goes
    (rw (c.operands_at.ensures.heap, c.operands_at.ensures.grants) at c.settle.ensures.turns)
