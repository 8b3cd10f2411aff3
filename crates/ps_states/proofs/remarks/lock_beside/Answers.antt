use Rattle.std.proofs.Common.{◌∙◌, sym, true, false}
use Rattle.ps_states.proofs.Beside.{beside_step}
use Rattle.ps_states.proofs.remarks.lock_beside.Goals as goal

pub returns-then-not-contains : goal.returns-then-not-contains
returns-then-not-contains c = sym (c.loop-lock.invariant
    ∙ beside_step c.args.locks.now c.args.others.now c.loop-lock.lock-index 0 false c.loop-lock-test.true
    (sym c.if-not-contains.true ∙ c.contains.ensures.value))

pub loop-lock-preserved : goal.loop-lock-preserved
loop-lock-preserved c = c.loop-lock.invariant
    ∙ beside_step c.args.locks.now c.args.others.now c.loop-lock.lock-index 0 true c.loop-lock-test.true
    (sym c.if-not-contains.false ∙ c.contains.ensures.value)
