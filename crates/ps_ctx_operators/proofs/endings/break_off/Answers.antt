-- A call that broke off ends.
use Rattle.std.proofs.Common.{Ok, Err, sym, subst}
use Rattle.ps_ops_state.specs.declared.breaks.Break.{Break}
use Rattle.ps_ctx_table.specs.Desks.{Desk}
use Rattle.ps_ctx.specs.declared.notes.Note.TheVariants.{Nothing}
use Rattle.ps_ctx.specs.Calls.{Calls, over_of}
use Rattle.ps_ctx_operators.specs.Done.{DoesBy}
use Rattle.ps_ctx_operators.proofs.Ending.{settled_desk_is, unended, unwound}
use Rattle.ps_ctx_operators.proofs.endings.break_off.Goals as goal

pub returns-in-Raises : goal.returns-in-Raises
returns-in-Raises g c = λ shown before done.
    c.raise.ensures shown before
    (subst (λ (why : Break). DoesBy c.args.calling.operator c.args.calling.caller c.args.attempt shown
    (Err why) before (over_of g.M.Memory.heap g.M.Memory.grants c.args.runtime.now
    c.args.contexts.now)) c.in-Raises.is done)

pub returns-in-NotMade : goal.returns-in-NotMade
returns-in-NotMade g c = λ shown before done.
    let d : Desk = over_of g.M.Memory.heap g.M.Memory.grants c.args.runtime.now
    c.args.contexts.now in
    unended c.args.calling.operator c.args.calling.caller c.args.attempt shown before d c.requires.runs.member
    c.requires.runs.found c.requires.runs.runs c.requires.steady c.in-NotMade.reason
    (subst (λ (why : Break). DoesBy c.args.calling.operator c.args.calling.caller c.args.attempt shown
    (Err why) before d) c.in-NotMade.is done)

pub returns-in-Unwinds : goal.returns-in-Unwinds
returns-in-Unwinds g c = λ shown before done.
    let d : Desk = over_of g.M.Memory.heap g.M.Memory.grants c.args.runtime.now
    c.args.contexts.now in
    subst (λ (one : Desk). Calls c.args.calling.operator c.args.calling.caller c.args.attempt shown (Ok Nothing)
    before one) (sym (settled_desk_is d.heap d.grants d.members
    c.settle.new.self.table c.args.calling.caller c.requires.runs.member
    c.args.runtime.now.shared
    c.args.contexts.now.has_faulted c.settle.new.self.has_faulted
    c.requires.runs.found c.settle.ensures.table
    c.settle.ensures.faulted))
    (unwound c.args.calling.operator c.args.calling.caller c.args.attempt shown before d c.requires.runs.member
    c.requires.runs.found c.requires.runs.runs c.requires.steady c.in-Unwinds.field-0
    (subst (λ (why : Break). DoesBy c.args.calling.operator c.args.calling.caller c.args.attempt shown
    (Err why) before d) c.in-Unwinds.is done))
