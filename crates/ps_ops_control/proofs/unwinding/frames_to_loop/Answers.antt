-- The first that is no procedure decides.
use Rattle.std.proofs.Common.{◌≡◌, ℕ, None, arith, ap, sym, subst, ◌∙◌}
use Rattle.ps_ops_control.specs.Turns.{frames_to_loop, no_more_than}
use Rattle.ps_ops_control.proofs.ToLoop.{found_here, found_on, found_none, found_end, found_past, may_be}
use Rattle.ps_ops_control.proofs.unwinding.frames_to_loop.Goals as goal

pub returns-then-ends_at_loop : goal.returns-then-ends_at_loop
returns-then-ends_at_loop c =
    sym (ap (no_more_than c.args.most) (found_here c.args.frames.now c.loop-depth.depth
    c.loop-depth.invariant c.in_ok-frame.frame
    c.in_ok-frame.ensures (sym c.ends_at_loop.ensures ∙ c.if-ends_at_loop.true))
    ∙ may_be c.args.most _ (omega (arith, c.loop-depth-test.true)))

pub loop-depth-preserved : goal.loop-depth-preserved
loop-depth-preserved c =
    found_on c.args.frames.now c.loop-depth.depth c.loop-depth.invariant c.in-Procedure.rest
    (rw c.in-Procedure.is at c.in_ok-frame.ensures)

pub returns-in_default : goal.returns-in_default
returns-in_default c =
    sym (ap (no_more_than c.args.most) (found_none c.args.frames.now c.loop-depth.depth
    c.loop-depth.invariant c.in_ok-frame.frame c.in_ok-frame.ensures
    (sym c.ends_at_loop.ensures ∙ c.if-ends_at_loop.false) c.in_default.not-Procedure))

pub returns-in_err-frame : goal.returns-in_err-frame
returns-in_err-frame c =
    c.from_residual.ensures
    ∙ sym (ap (no_more_than c.args.most) (found_end c.args.frames.now c.loop-depth.depth
    c.loop-depth.invariant c.in_err-frame.ensures))

pub returns : goal.returns
returns c =
    let all : c.loop-depth.depth ≡ c.args.most =
    omega (arith, c.loop-depth-test.false, c.loop-depth.auto.depth-end) in
    sym (subst (λ (n : ℕ). no_more_than n (frames_to_loop c.args.frames.now) ≡ None) all
    (found_past c.args.frames.now c.loop-depth.depth c.loop-depth.invariant))
