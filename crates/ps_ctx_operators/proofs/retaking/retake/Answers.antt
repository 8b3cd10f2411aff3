-- The lock is taken again, or no record can be put.
use Rattle.std.proofs.Common.{Ok, sym, subst, arith}
use Rattle.ps_mem.specs.Heap.{Heap, Grants}
use Rattle.ps_ops_state.proofs.Meeting.{logs_then}
use Rattle.ps_step_outcome.proofs.Noting.{logs_asked}
use Rattle.ps_ctx_table.specs.Desks.{Desk}
use Rattle.ps_ctx_table.proofs.Places.{identifier_within}
use Rattle.ps_ctx.specs.Calls.{Retakes, over_of}
use Rattle.ps_ctx_operators.proofs.Ending.{settled_desk_is}
use Rattle.ps_ctx_operators.proofs.RetakeDone.{logs_stored, identifier_some, stands, retakes, untaken}
use Rattle.ps_ctx_operators.proofs.retaking.retake.Goals as goal

pub returns-in-Err : goal.returns-in-Err
returns-in-Err g c =
    let d : Desk = over_of g.M.Memory.heap g.M.Memory.grants c.args.runtime.now
    c.args.contexts.now in
    let it = c.awaited_lock-lock.ensures.course in
    rw c.permit_records.ensures.heap
    (untaken c.args.caller c.args.attempt d c.requires.steady it.member it.found
    c.awaited_lock-lock.result it.is (g.M.Memory.grants c.permit_records.new.memory)
    c.permit_records.ensures.kept
    (logs_asked c.args.attempt.slot _ _ c.permit_records.ensures.kept c.permit_records.ensures.others
    c.permit_records.ensures.more) c.in-Err.reason c.in-Err.ensures.reason)

pub set_owner-requires-clause-known : goal.set_owner-requires-clause-known
set_owner-requires-clause-known g c =
    let d : Desk = over_of g.M.Memory.heap g.M.Memory.grants c.args.runtime.now
    c.args.contexts.now in
    let it = c.awaited_lock-lock.ensures.course in
    rw c.permit_records.ensures.heap
    (stands c.args.caller c.args.attempt d c.requires.steady it.member it.found
    c.awaited_lock-lock.result it.is)

pub set_owner-requires-clause-owner : goal.set_owner-requires-clause-owner
set_owner-requires-clause-owner g c =
    let there = identifier_within c.args.contexts.now.table c.args.caller
    c.requires.retakes.member c.requires.retakes.found in
    let few = c.awaited_lock-lock.ensures.within in
    omega (arith, there, few)

pub returns : goal.returns
returns g c =
    let d : Desk = over_of g.M.Memory.heap g.M.Memory.grants c.args.runtime.now
    c.args.contexts.now in
    let new : Heap = g.M.Memory.heap c.set_owner.new.memory in
    let mid : Grants = g.M.Memory.grants c.permit_records.new.memory in
    let left : Grants = g.M.Memory.grants c.set_owner.new.memory in
    let it = c.awaited_lock-lock.ensures.course in
    let first = logs_asked c.args.attempt.slot d.grants mid c.permit_records.ensures.kept
    c.permit_records.ensures.others c.permit_records.ensures.more in
    let second = logs_stored mid left c.args.attempt.slot c.set_owner.ensures.grants in
    subst (λ (one : Desk). Retakes c.args.caller c.args.attempt (Ok tt) d one)
    (sym (settled_desk_is new left d.members c.settle.new.self.table c.args.caller it.member
    c.args.runtime.now.shared c.args.contexts.now.has_faulted
    c.settle.new.self.has_faulted it.found c.settle.ensures.table c.settle.ensures.faulted))
    (retakes c.args.caller c.args.attempt d c.requires.steady it.member it.found
    c.awaited_lock-lock.result it.is
    (identifier_some d.members c.args.caller it.member it.found) new left
    c.set_owner.ensures.sound
    (rw c.permit_records.ensures.heap at c.set_owner.ensures.keeps)
    (rw c.permit_records.ensures.heap at c.set_owner.ensures.shows)
    (logs_then 0 1 1 d.grants mid left c.args.attempt.slot (omega arith) first second))
