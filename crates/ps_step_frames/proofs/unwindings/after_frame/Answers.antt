-- By whether the unwinding ends there.
use Rattle.std.proofs.Common.{sym, ◌∙◌}
use Rattle.ps_step_frames.proofs.Going.{gone_ended, gone_stopped, gone_left}
use Rattle.ps_step_frames.proofs.unwindings.after_frame.Goals as goal

pub returns-then-ends_at_loop : goal.returns-then-ends_at_loop
returns-then-ends_at_loop g c =
    gone_ended _ c.args.attempt c.args.cause c.args.frame c.requires.good
    (sym c.ends_at_loop.ensures ∙ c.if-ends_at_loop.true)

pub returns-then-ends_at_stopped : goal.returns-then-ends_at_stopped
returns-then-ends_at_stopped g c =
    gone_stopped _ c.args.attempt c.args.cause c.args.frame
    (sym c.ends_at_loop.ensures ∙ c.if-ends_at_loop.false) _ _
    (sym c.ends_at_stopped.ensures ∙ c.if-ends_at_stopped.true) c.push_truth.ensures

pub returns : goal.returns
returns g c =
    gone_left _ c.args.attempt c.args.cause c.args.frame
    (sym c.ends_at_loop.ensures ∙ c.if-ends_at_loop.false) _ _
    (sym c.ends_at_stopped.ensures ∙ c.if-ends_at_stopped.false) c.break_off.ensures
