-- The error of an operator is noted, or is not.
use Rattle.std.proofs.Common.{Ok, Some, IsSome, refl, sym, subst}
use Rattle.ps_ops_state.specs.Lent.{Lent, lent_of}
use Rattle.ps_ctx_table.specs.declared.members.Member.{Member}
use Rattle.ps_ctx_table.specs.Desks.{Desk, desk_turned, IsGoodMember}
use Rattle.ps_ctx_table.proofs.Places.{item_at-with_item}
use Rattle.ps_ctx_table.proofs.Turning.{member_at}
use Rattle.ps_ctx_table.proofs.Settled.{desk_settled}
use Rattle.ps_step_outcome.specs.declared.turned.Turned.{Turned}
use Rattle.ps_ctx.specs.declared.notes.Note.TheVariants.{Nothing}
use Rattle.ps_ctx.specs.Calls.{Calls, over_of}
use Rattle.ps_ctx_operators.proofs.Ending.{runs_by, raised, unraised}
use Rattle.ps_ctx_operators.proofs.endings.raise.Goals as goal

pub raise_by-requires : goal.raise_by-requires
raise_by-requires g c =
    let d : Desk = over_of g.M.Memory.heap g.M.Memory.grants c.args.runtime.now
    c.args.contexts.now in
    record {
      good = (member_at (IsGoodMember d) d.members c.args.calling.caller
          c.get_mut-member.result.now c.requires.steady.members
          (sym c.get_mut-member.ensures.value)).good;
    }

pub settle-requires : goal.settle-requires
settle-requires g c =
    subst IsSome (sym (item_at-with_item c.args.contexts.now.table c.args.calling.caller
    c.get_mut-member.result.now (Some _) (sym c.get_mut-member.ensures.value))) refl

pub returns-in-Ok : goal.returns-in-Ok
returns-in-Ok g c = λ shown before done.
    let d : Desk = over_of g.M.Memory.heap g.M.Memory.grants c.args.runtime.now
    c.args.contexts.now in
    let new : Lent = lent_of g.M.Memory.heap g.M.Memory.grants c.raise_by.new.context c.raise_by.new.runtime in
    let member : Member = c.get_mut-member.result.now in
    let found = sym c.get_mut-member.ensures.value in
    subst (λ (one : Desk). Calls c.args.calling.operator c.args.calling.caller c.args.attempt shown (Ok Nothing)
    before one) (sym (desk_settled new.heap new.grants c.args.contexts.now.table
    c.settle.new.self.table c.args.calling.caller member
    (record member { context = c.raise_by.new.context }) c.raise_by.new.runtime.shared c.args.contexts.now.has_faulted c.settle.new.self.has_faulted
    c.own_of.result found c.settle.ensures.table c.settle.ensures.faulted))
    (subst (λ (t : Turned). Calls c.args.calling.operator c.args.calling.caller c.args.attempt shown (Ok Nothing)
    before (desk_turned d c.args.calling.caller member new t)) (sym c.own_of.ensures)
    (raised c.args.calling.operator c.args.calling.caller c.args.attempt shown before d member found
    (runs_by d.members c.args.calling.caller member found c.requires.runs) c.requires.steady c.args.error
    new done c.in-Ok.turned (rw c.operator-operator.ensures at c.in-Ok.ensures)))

pub returns-in-Err : goal.returns-in-Err
returns-in-Err g c = λ shown before done.
    let d : Desk = over_of g.M.Memory.heap g.M.Memory.grants c.args.runtime.now
    c.args.contexts.now in
    let new : Lent = lent_of g.M.Memory.heap g.M.Memory.grants c.raise_by.new.context c.raise_by.new.runtime in
    let member : Member = c.get_mut-member.result.now in
    let found = sym c.get_mut-member.ensures.value in
    unraised c.args.calling.operator c.args.calling.caller c.args.attempt shown before d member found
    (runs_by d.members c.args.calling.caller member found c.requires.runs) c.requires.steady c.args.error
    new done c.in-Err.reason (rw c.operator-operator.ensures at c.in-Err.ensures)
