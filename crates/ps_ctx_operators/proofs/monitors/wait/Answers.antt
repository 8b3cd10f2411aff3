-- The lock is freed; or it isn't the caller's, or no record can be put.
use Rattle.std.proofs.Common.{arith}
use Rattle.ps_language.specs.declared.errors.ErrorName.TheVariants.{InvalidContext}
use Rattle.ps_language.specs.declared.kinds.Kind.TheVariants.{Lock, Condition}
use Rattle.ps_mem.specs.Shows.{IsValue}
use Rattle.ps_mem.proofs.KeepsLemmas.{stands-kept}
use Rattle.ps_dict.proofs.Granted.{store-used}
use Rattle.ps_ops_operands.specs.Changes.{most_records}
use Rattle.ps_ops_operands.proofs.Held.{rest_held, first_of_two_held, second_held}
use Rattle.ps_ops_state.specs.Lent.{Lent, lent_of}
use Rattle.ps_ops_state.proofs.Acting.{raised_acts, wanting_acts}
use Rattle.ps_ops_state.proofs.Direct.{store_acts}
use Rattle.ps_ops_state.proofs.Meeting.{at_least-same, logs_more}
use Rattle.ps_step_outcome.proofs.Noting.{logs_asked, logs_changed}
use Rattle.ps_ctx_operators.specs.Rows.{wait_caller, wait_asked}
use Rattle.ps_ctx_operators.proofs.Owning.{is_owner-by, is_owner-other}
use Rattle.ps_ctx_operators.proofs.WaitLemmas.{wait_other, wait_wants, wait_leaves}
use Rattle.ps_ctx_operators.proofs.monitors.wait.Goals as goal

pub returns-then-owner-caller-clause-acts : goal.returns-then-owner-caller-clause-acts
returns-then-owner-caller-clause-acts g c =
    rw (c.owner.ensures.heap, c.owner.ensures.grants)
    (raised_acts _ c.args.attempt _ _ c.requires.good InvalidContext
    (wait_other _ _ _ c.in-Some.ensures c.args.caller c.in-Some-condition_of.condition
    c.in-Some-condition_of.ensures.value c.in-Some-lock_of.lock c.owner.result
    c.in-Some-lock_of.ensures.value c.owner.ensures.value
    (is_owner-other c.args.caller c.owner.result c.if-owner-caller.true)))

pub returns-in-Err-clause-acts : goal.returns-in-Err-clause-acts
returns-in-Err-clause-acts g c =
    let l : Lent = lent_of g.M.Memory.heap g.M.Memory.grants c.args.context.now c.args.runtime.now in
    let held = c.in-Some-lock_of.ensures.held l.heap
    (second_held (IsValue l.heap) _ c.requires.good.operands _ _ c.in-Some.ensures) in
    let grants = g.M.Memory.grants c.permit_records.new.memory in
    rw (c.permit_records.ensures.heap, c.owner.ensures.heap)
    (wanting_acts (wait_caller c.args.caller) c.args.attempt wait_asked l c.requires.good grants
    l.room l.scratch (omega arith) (at_least-same _) c.requires.good.empty
    (rw c.owner.ensures.grants at (logs_asked c.args.attempt.slot _ _ c.permit_records.ensures.kept
    c.permit_records.ensures.others c.permit_records.ensures.more)) c.in-Err.reason
    (wait_wants l _ _ c.in-Some.ensures c.args.caller c.in-Some-condition_of.condition
    c.in-Some-condition_of.ensures.value c.in-Some-lock_of.lock c.owner.result
    c.in-Some-lock_of.ensures.value c.owner.ensures.value
    (is_owner-by c.args.caller c.owner.result c.requires.caller c.if-owner-caller.false) held
    c.args.attempt grants c.in-Err.reason (rw c.owner.ensures.grants at c.in-Err.ensures.reason)))

pub returns-clause-acts : goal.returns-clause-acts
returns-clause-acts g c =
    let l : Lent = lent_of g.M.Memory.heap g.M.Memory.grants c.args.context.now c.args.runtime.now in
    let held = c.in-Some-lock_of.ensures.held l.heap
    (second_held (IsValue l.heap) _ c.requires.good.operands _ _ c.in-Some.ensures) in
    let new = g.M.Memory.heap c.set_owner.new.memory in
    let left = g.M.Memory.grants c.set_owner.new.memory in
    let logs = rw c.owner.ensures.grants at (logs_changed c.args.attempt.slot _ _
    c.permit_records.ensures.kept c.permit_records.ensures.others c.permit_records.ensures.more left
    1 (store-used _ _ _ c.set_owner.ensures.grants)) in
    rw (c.discard.ensures)
    (store_acts (wait_caller c.args.caller) c.args.attempt wait_asked l _ c.requires.good
    (rest_held (IsValue l.heap) _ c.requires.good.operands 2) new left l.scratch
    (rw (c.permit_records.ensures.heap, c.owner.ensures.heap) at c.set_owner.ensures.keeps)
    c.set_owner.ensures.sound (at_least-same _) c.requires.good.empty
    (logs_more 1 most_records l.grants left c.args.attempt.slot (omega arith) logs)
    (wait_leaves l _ _ c.in-Some.ensures c.args.caller c.in-Some-condition_of.condition
    c.in-Some-condition_of.ensures.value c.in-Some-lock_of.lock c.owner.result
    c.in-Some-lock_of.ensures.value c.owner.ensures.value
    (is_owner-by c.args.caller c.owner.result c.requires.caller c.if-owner-caller.false) held
    c.args.attempt new left
    (rw (c.permit_records.ensures.heap, c.owner.ensures.heap) at c.set_owner.ensures.shows) logs))

pub returns-clause-lock : goal.returns-clause-lock
returns-clause-lock g c =
    let h = g.M.Memory.heap c.args.runtime.now.memory in
    stands-kept h (g.M.Memory.heap c.set_owner.new.memory)
    (rw (c.permit_records.ensures.heap, c.owner.ensures.heap) at c.set_owner.ensures.keeps) Lock
    c.in-Some-lock_of.lock 1 (c.in-Some-lock_of.ensures.held h
    (second_held (IsValue h) _ c.requires.good.operands _ _ c.in-Some.ensures))

pub returns-clause-condition : goal.returns-clause-condition
returns-clause-condition g c =
    let h = g.M.Memory.heap c.args.runtime.now.memory in
    stands-kept h (g.M.Memory.heap c.set_owner.new.memory)
    (rw (c.permit_records.ensures.heap, c.owner.ensures.heap) at c.set_owner.ensures.keeps)
    Condition c.in-Some-condition_of.condition 1 (c.in-Some-condition_of.ensures.held h
    (first_of_two_held (IsValue h) _ c.requires.good.operands _ _ c.in-Some.ensures))
