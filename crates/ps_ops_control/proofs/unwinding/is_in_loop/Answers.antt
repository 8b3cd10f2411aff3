-- The topmost loop or frame of stopped decides.
use Rattle.std.proofs.Common.{arith, sym, refl, ◌∙◌}
use Rattle.ps_ops_control.proofs.FramesLeft.{drop_at, drop_all, loop_found, stopped_found, neither_found}
use Rattle.ps_ops_control.proofs.unwinding.is_in_loop.Goals as goal

pub returns-then-ends_at_stopped : goal.returns-then-ends_at_stopped
returns-then-ends_at_stopped c = λ h names. sym (c.loop-depth.invariant h names
    ∙ rw (drop_at c.args.frames.now c.loop-depth.depth c.in-Some.frame c.in-Some.ensures)
    (stopped_found h names _ c.in-Some.frame (sym c.ends_at_stopped.ensures ∙ c.if-ends_at_stopped.true)))

pub returns-then-ends_at_loop : goal.returns-then-ends_at_loop
returns-then-ends_at_loop c = λ h names. sym (c.loop-depth.invariant h names
    ∙ rw (drop_at c.args.frames.now c.loop-depth.depth c.in-Some.frame c.in-Some.ensures)
    (loop_found h names _ c.in-Some.frame (sym c.ends_at_loop.ensures ∙ c.if-ends_at_loop.true)))

pub loop-depth-preserved : goal.loop-depth-preserved
loop-depth-preserved c = λ h names. c.loop-depth.invariant h names
    ∙ (rw (drop_at c.args.frames.now c.loop-depth.depth c.in-Some.frame c.in-Some.ensures)
    (neither_found h names _ c.in-Some.frame (sym c.ends_at_stopped.ensures
    ∙ c.if-ends_at_stopped.false) (sym c.ends_at_loop.ensures ∙ c.if-ends_at_loop.false)))

pub returns : goal.returns
returns c = λ h names. sym (c.loop-depth.invariant h names
    ∙ rw (drop_all c.args.frames.now c.loop-depth.depth
    (omega (arith, c.loop-depth-test.false, c.len-depth-end.ensures.count))) refl)
