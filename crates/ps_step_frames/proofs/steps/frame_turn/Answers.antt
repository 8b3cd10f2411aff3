-- Each frame by its own step.
use Rattle.std.proofs.Common.{refl}
use Rattle.ps_step_frames.specs.Steps.{bind_asks, lock_asks}
use Rattle.ps_step_frames.proofs.Joining.{joined, joined_asks}
use Rattle.ps_step_frames.proofs.steps.frame_turn.Goals as goal

pub returns-in-Repeat : goal.returns-in-Repeat
returns-in-Repeat g c =
    joined g.O.Operate.asks _ _ c.args.attempt _ c.args.top _ c.in-Repeat.is c.requires.top
    (λ s. refl) c.repeat_step.ensures

pub returns-in-Loop : goal.returns-in-Loop
returns-in-Loop g c =
    joined g.O.Operate.asks _ _ c.args.attempt _ c.args.top _ c.in-Loop.is c.requires.top
    (λ s. refl) c.loop_step.ensures

pub returns-in-For : goal.returns-in-For
returns-in-For g c =
    joined g.O.Operate.asks _ _ c.args.attempt _ c.args.top _ c.in-For.is c.requires.top
    (λ s. refl) c.for_step.ensures

pub returns-in-Forall : goal.returns-in-Forall
returns-in-Forall g c =
    joined g.O.Operate.asks _ _ c.args.attempt _ c.args.top _ c.in-Forall.is c.requires.top
    (λ s. refl) c.forall_step.ensures

pub returns-in-Stopped : goal.returns-in-Stopped
returns-in-Stopped g c =
    joined g.O.Operate.asks _ _ c.args.attempt _ c.args.top _ c.in-Stopped.is c.requires.top
    (λ s. refl) c.stopped_step.ensures

pub returns-in-Bind : goal.returns-in-Bind
returns-in-Bind g c =
    joined_asks g.O.Operate.asks (bind_asks c.in-Bind.over c.in-Bind.at) _ _ c.args.attempt _
    c.args.top _ c.in-Bind.is c.requires.top (λ s. refl) c.bind_turn.ensures

pub returns-in-Monitor : goal.returns-in-Monitor
returns-in-Monitor g c =
    joined_asks g.O.Operate.asks lock_asks _ _ c.args.attempt _ c.args.top _ c.in-Monitor.is
    c.requires.top (λ s. refl) c.monitor_turn.ensures
