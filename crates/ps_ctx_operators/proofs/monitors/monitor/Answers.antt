-- The procedure is entered, or the caller waits; or its own lock is asked for, there is no room for
-- the frames, or no record can be put.
use Rattle.std.proofs.Common.{sym, ap, ◌∙◌, arith}
use Rattle.ps_language.specs.declared.errors.ErrorName.TheVariants.{InvalidContext, ExecStackOverflow}
use Rattle.ps_mem.specs.Shows.{IsValue}
use Rattle.ps_dict.proofs.Granted.{store-used}
use Rattle.ps_ops_operands.proofs.Held.{first_of_two_held, second_held}
use Rattle.ps_ops_state.specs.Lent.{Lent, lent_of}
use Rattle.ps_ops_state.proofs.Acting.{raised_acts, wanting_acts}
use Rattle.ps_ops_state.proofs.Meeting.{at_least-same}
use Rattle.ps_step_outcome.proofs.Noting.{logs_asked, logs_changed}
use Rattle.ps_ctx_operators.specs.Rows.{monitor_caller, monitor_asked, is_waiting}
use Rattle.ps_ctx_operators.proofs.Owning.{is_owner-by, is_owner-other, is_free-by, is_free-other}
use Rattle.ps_ctx_operators.proofs.Monitoring.{part_raises, monitor_own, monitor_waits, monitor_full}
use Rattle.ps_ctx_operators.proofs.Monitoring.{monitor_enters, waits_acts, enter_wants, enters_acts}
use Rattle.ps_ctx_operators.proofs.monitors.monitor.Goals as goal

pub returns-then-owned_by-caller-clause-acts : goal.returns-then-owned_by-caller-clause-acts
returns-then-owned_by-caller-clause-acts g c =
    rw (c.owner-owned_by.ensures.heap, c.owner-owned_by.ensures.grants)
    (raised_acts _ c.args.attempt _ _ c.requires.good InvalidContext
    (part_raises _ c.args.caller InvalidContext
    (monitor_own _ _ _ c.in-Some.ensures c.args.caller c.in-Some-procedure_of.body
    c.in-Some-procedure_of.ensures.part c.in-Some-lock_of.lock c.in-Some-lock_of.ensures.value
    (sym c.is_executable.ensures ∙ c.if-not-is_executable.false) c.owner-owned_by.result
    c.owner-owned_by.ensures.value
    (is_owner-by c.args.caller c.owner-owned_by.result c.requires.caller
    c.if-owned_by-caller.true))))

pub returns-then-owned_by-ne0-clause-acts : goal.returns-then-owned_by-ne0-clause-acts
returns-then-owned_by-ne0-clause-acts g c =
    rw (c.owner-owned_by.ensures.heap, c.owner-owned_by.ensures.grants)
    (waits_acts _ c.requires.good c.args.attempt c.args.caller
    (monitor_waits _ _ _ c.in-Some.ensures c.args.caller c.in-Some-procedure_of.body
    c.in-Some-procedure_of.ensures.part c.in-Some-lock_of.lock c.in-Some-lock_of.ensures.value
    (sym c.is_executable.ensures ∙ c.if-not-is_executable.false) c.owner-owned_by.result
    c.owner-owned_by.ensures.value
    (is_owner-other c.args.caller c.owner-owned_by.result c.if-owned_by-caller.false)
    (is_free-other c.owner-owned_by.result c.if-owned_by-ne0.true)))

pub returns-then-owned_by-ne0-clause-entered : goal.returns-then-owned_by-ne0-clause-entered
returns-then-owned_by-ne0-clause-entered g c = λ store shown.
    ap is_waiting
    (monitor_waits _ _ _ c.in-Some.ensures c.args.caller c.in-Some-procedure_of.body
    c.in-Some-procedure_of.ensures.part c.in-Some-lock_of.lock c.in-Some-lock_of.ensures.value
    (sym c.is_executable.ensures ∙ c.if-not-is_executable.false) c.owner-owned_by.result
    c.owner-owned_by.ensures.value
    (is_owner-other c.args.caller c.owner-owned_by.result c.if-owned_by-caller.false)
    (is_free-other c.owner-owned_by.result c.if-owned_by-ne0.true) store shown)

pub returns-then-len-monitored_count-clause-acts :
    goal.returns-then-len-monitored_count-clause-acts
returns-then-len-monitored_count-clause-acts g c =
    let count = c.monitored_count.ensures.count in
    let few = c.monitored_count.ensures.few in
    let size = c.len.ensures.count in
    let over = c.if-len-monitored_count.true in
    rw (c.owner-owned_by.ensures.heap, c.owner-owned_by.ensures.grants)
    (raised_acts _ c.args.attempt _ _ c.requires.good ExecStackOverflow
    (part_raises _ c.args.caller ExecStackOverflow
    (monitor_full _ _ _ c.in-Some.ensures c.args.caller c.in-Some-procedure_of.body
    c.in-Some-procedure_of.ensures.part c.in-Some-lock_of.lock c.in-Some-lock_of.ensures.value
    (sym c.is_executable.ensures ∙ c.if-not-is_executable.false) c.owner-owned_by.result
    c.owner-owned_by.ensures.value
    (is_owner-other c.args.caller c.owner-owned_by.result c.if-owned_by-caller.false)
    (is_free-by c.owner-owned_by.result c.if-owned_by-ne0.false)
    (omega (arith, count, few, size, over)))))

pub returns-in-Err-clause-acts : goal.returns-in-Err-clause-acts
returns-in-Err-clause-acts g c =
    let l : Lent = lent_of g.M.Memory.heap g.M.Memory.grants c.args.context.now c.args.runtime.now in
    let held = c.in-Some-lock_of.ensures.held l.heap
    (second_held (IsValue l.heap) _ c.requires.good.operands _ _ c.in-Some.ensures) in
    let count = c.monitored_count.ensures.count in
    let size = c.len.ensures.count in
    let within = c.if-len-monitored_count.false in
    let few = c.monitored_count.ensures.few in
    let grants = g.M.Memory.grants c.permit_records.new.memory in
    rw (c.permit_records.ensures.heap, c.owner-owned_by.ensures.heap)
    (wanting_acts (monitor_caller c.args.caller) c.args.attempt (monitor_asked c.args.caller) l
    c.requires.good grants l.room l.scratch (omega arith) (at_least-same _) c.requires.good.empty
    (rw c.owner-owned_by.ensures.grants at (logs_asked c.args.attempt.slot _ _
    c.permit_records.ensures.kept c.permit_records.ensures.others c.permit_records.ensures.more))
    c.in-Err.reason
    (enter_wants l c.requires.good c.args.attempt c.args.caller c.in-Some-lock_of.lock held
    c.in-Some-procedure_of.body
    (monitor_enters l _ _ c.in-Some.ensures c.args.caller c.in-Some-procedure_of.body
    c.in-Some-procedure_of.ensures.part c.in-Some-lock_of.lock c.in-Some-lock_of.ensures.value
    (sym c.is_executable.ensures ∙ c.if-not-is_executable.false) c.owner-owned_by.result
    c.owner-owned_by.ensures.value
    (is_owner-other c.args.caller c.owner-owned_by.result c.if-owned_by-caller.false)
    (is_free-by c.owner-owned_by.result c.if-owned_by-ne0.false)
    (omega (arith, count, few, size, within))) grants c.in-Err.reason
    (rw c.owner-owned_by.ensures.grants at c.in-Err.ensures.reason)))

pub returns-clause-acts : goal.returns-clause-acts
returns-clause-acts g c =
    let l : Lent = lent_of g.M.Memory.heap g.M.Memory.grants c.args.context.now c.args.runtime.now in
    let held = c.in-Some-lock_of.ensures.held l.heap
    (second_held (IsValue l.heap) _ c.requires.good.operands _ _ c.in-Some.ensures) in
    let count = c.monitored_count.ensures.count in
    let size = c.len.ensures.count in
    let within = c.if-len-monitored_count.false in
    let few = c.monitored_count.ensures.few in
    let left = g.M.Memory.grants c.set_owner.new.memory in
    rw (c.discard.ensures, c.push_monitored.ensures)
    (enters_acts l c.requires.good c.args.attempt c.args.caller c.in-Some-lock_of.lock held
    c.in-Some-procedure_of.body
    (monitor_enters l _ _ c.in-Some.ensures c.args.caller c.in-Some-procedure_of.body
    c.in-Some-procedure_of.ensures.part c.in-Some-lock_of.lock c.in-Some-lock_of.ensures.value
    (sym c.is_executable.ensures ∙ c.if-not-is_executable.false) c.owner-owned_by.result
    c.owner-owned_by.ensures.value
    (is_owner-other c.args.caller c.owner-owned_by.result c.if-owned_by-caller.false)
    (is_free-by c.owner-owned_by.result c.if-owned_by-ne0.false)
    (omega (arith, count, few, size, within)))
    (g.M.Memory.heap c.set_owner.new.memory) left
    (rw (c.permit_records.ensures.heap, c.owner-owned_by.ensures.heap)
    at c.set_owner.ensures.keeps)
    c.set_owner.ensures.sound
    (rw (c.permit_records.ensures.heap, c.owner-owned_by.ensures.heap)
    at c.set_owner.ensures.births)
    c.requires.caller
    (rw (c.permit_records.ensures.heap, c.owner-owned_by.ensures.heap)
    at c.set_owner.ensures.shows)
    (rw c.owner-owned_by.ensures.grants at (logs_changed c.args.attempt.slot _ _
    c.permit_records.ensures.kept c.permit_records.ensures.others c.permit_records.ensures.more left
    1 (store-used _ _ _ c.set_owner.ensures.grants)))
    (c.in-Some-procedure_of.ensures.held l.heap
    (first_of_two_held (IsValue l.heap) _ c.requires.good.operands _ _ c.in-Some.ensures)))

pub returns-clause-entered : goal.returns-clause-entered
returns-clause-entered g c = λ store shown.
    let count = c.monitored_count.ensures.count in
    let size = c.len.ensures.count in
    let within = c.if-len-monitored_count.false in
    let few = c.monitored_count.ensures.few in
    ap is_waiting
    (monitor_enters _ _ _ c.in-Some.ensures c.args.caller c.in-Some-procedure_of.body
    c.in-Some-procedure_of.ensures.part c.in-Some-lock_of.lock c.in-Some-lock_of.ensures.value
    (sym c.is_executable.ensures ∙ c.if-not-is_executable.false) c.owner-owned_by.result
    c.owner-owned_by.ensures.value
    (is_owner-other c.args.caller c.owner-owned_by.result c.if-owned_by-caller.false)
    (is_free-by c.owner-owned_by.result c.if-owned_by-ne0.false)
    (omega (arith, count, few, size, within)) store shown)
