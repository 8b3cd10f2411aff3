-- The record is asked for, and the lock is freed.
use Rattle.std.proofs.Common.{sym}
use Rattle.ps_dict.proofs.Granted.{store-used}
use Rattle.ps_ops_operands.proofs.Operands.{first_split}
use Rattle.ps_ops_state.specs.Lent.{Lent, lent}
use Rattle.ps_step_outcome.proofs.Noting.{logs_asked, logs_changed}
use Rattle.ps_step_frames.proofs.Freeing.{monitor_held, monitor_unmade, monitor_goes}
use Rattle.ps_step_frames.proofs.monitors.monitor_turn.Goals as goal

pub returns-in-Err : goal.returns-in-Err
returns-in-Err g c =
    let l : Lent = lent (g.M.Memory.heap c.args.memory.now) (g.M.Memory.grants c.args.memory.now)
    c.args.context.now c.args.shared.now in
    rw c.permit_records.ensures.heap
    (monitor_unmade l c.requires.good c.args.lock (first_split _ _ (sym c.requires.top))
    c.args.attempt _ (logs_asked c.args.attempt.slot _ _ c.permit_records.ensures.kept
    c.permit_records.ensures.others c.permit_records.ensures.more) c.in-Err.reason
    c.in-Err.ensures.reason)

pub free_lock-requires-clause-known : goal.free_lock-requires-clause-known
free_lock-requires-clause-known g c =
    let l : Lent = lent (g.M.Memory.heap c.args.memory.now) (g.M.Memory.grants c.args.memory.now)
    c.args.context.now c.args.shared.now in
    rw c.permit_records.ensures.heap
    (monitor_held l c.requires.good c.args.lock (first_split _ _ (sym c.requires.top))
    c.args.attempt)

pub returns : goal.returns
returns g c =
    let l : Lent = lent (g.M.Memory.heap c.args.memory.now) (g.M.Memory.grants c.args.memory.now)
    c.args.context.now c.args.shared.now in
    rw c.drop_top.ensures.frames
    (monitor_goes l c.requires.good c.args.lock (first_split _ _ (sym c.requires.top))
    c.args.attempt _ _ (rw c.permit_records.ensures.heap at c.free_lock.ensures.keeps)
    c.free_lock.ensures.sound
    (logs_changed c.args.attempt.slot _ _ c.permit_records.ensures.kept c.permit_records.ensures.others
    c.permit_records.ensures.more _ 1 (store-used _ _ _ c.free_lock.ensures.grants))
    (rw c.permit_records.ensures.heap at c.free_lock.ensures.shows))
