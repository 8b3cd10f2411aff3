-- A call ends by what was done.
use Rattle.std.proofs.Common.{Ok, sym, subst}
use Rattle.std.specs.Prelude.{Result}
use Rattle.ps_ops_state.specs.declared.breaks.Break.{Break}
use Rattle.ps_ctx_table.specs.Desks.{Desk}
use Rattle.ps_ctx.specs.declared.notes.Note.{Note}
use Rattle.ps_ctx.specs.Calls.{Calls, over_of}
use Rattle.ps_ctx_operators.specs.Done.{DoesBy}
use Rattle.ps_ctx_operators.proofs.Ending.{settled_desk_is, ended}
use Rattle.ps_ctx_operators.proofs.endings.end.Goals as goal

pub returns-in-Ok : goal.returns-in-Ok
returns-in-Ok g c = λ shown before done.
    let d : Desk = over_of g.M.Memory.heap g.M.Memory.grants c.args.runtime.now
    c.args.contexts.now in
    subst (λ (one : Desk). Calls c.args.calling.operator c.args.calling.caller c.args.attempt shown
    (Ok c.in-Ok.note) before one) (sym (settled_desk_is d.heap d.grants d.members
    c.settle.new.self.table c.args.calling.caller c.requires.runs.member c.args.runtime.now.shared c.args.contexts.now.has_faulted c.settle.new.self.has_faulted
    c.requires.runs.found c.settle.ensures.table c.settle.ensures.faulted))
    (ended c.args.calling.operator c.args.calling.caller c.args.attempt shown before d c.requires.runs.member
    c.requires.runs.found c.requires.runs.runs c.requires.steady c.in-Ok.note
    (subst (λ (result : Result Note Break). DoesBy c.args.calling.operator c.args.calling.caller c.args.attempt shown
    result before d) c.in-Ok.is done))

pub returns-in-Err : goal.returns-in-Err
returns-in-Err g c = λ shown before done.
    c.break_off.ensures shown before
    (subst (λ (result : Result Note Break). DoesBy c.args.calling.operator c.args.calling.caller c.args.attempt shown
    result before (over_of g.M.Memory.heap g.M.Memory.grants c.args.runtime.now
    c.args.contexts.now)) c.in-Err.is done)
