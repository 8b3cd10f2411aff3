-- The context that is named is detached; or there is none, or nothing is read.
use Rattle.std.proofs.Common.{List, Option, Ok, sym, subst}
use Rattle.ps_step_outcome.specs.declared.world_operators.WorldOperator.TheVariants.{Detach}
use Rattle.ps_ops_state.specs.Lent.{Lent, lent_of}
use Rattle.ps_ctx_table.specs.declared.members.Member.{Member}
use Rattle.ps_ctx_table.specs.Desks.{Desk, desk_unmade, IsGoodMember}
use Rattle.ps_ctx_table.proofs.Turning.{member_at}
use Rattle.ps_ctx.specs.declared.notes.Note.TheVariants.{Nothing}
use Rattle.ps_ctx.specs.Calls.{over_of}
use Rattle.ps_ctx_operators.specs.Done.{DoesBy}
use Rattle.ps_ctx_operators.proofs.Ending.{runs_by}
use Rattle.ps_ctx_operators.specs.Named.{Names}
use Rattle.ps_ctx_operators.proofs.NamedOperand.{there_named}
use Rattle.ps_ctx_operators.proofs.DetachDone.{some_still, detached_done, undetached, unnamed_done}
use Rattle.ps_ctx_operators.proofs.detaching.detach.Goals as goal

pub returns-in-Err : goal.returns-in-Err
returns-in-Err g c = λ attempt shown.
    let d : Desk = over_of g.M.Memory.heap g.M.Memory.grants c.args.runtime.now
    c.args.contexts.now in
    unnamed_done c.args.caller attempt shown d c.requires.steady c.requires.runs c.in-Err.error
    (subst (λ result. Names c.args.caller result d.members) c.in-Err.is c.named_operand.ensures)

pub detach-requires : goal.detach-requires
detach-requires g c =
    let d : Desk = over_of g.M.Memory.heap g.M.Memory.grants c.args.runtime.now
    c.args.contexts.now in
    record {
      good = (member_at (IsGoodMember d) d.members c.args.caller c.get_mut-member.result.now
          c.requires.steady.members (sym c.get_mut-member.ensures.value)).good;
    }

pub leave-requires : goal.leave-requires
leave-requires g c =
    let named = subst (λ result. Names c.args.caller result c.args.contexts.now.table) c.in-Ok.is
    c.named_operand.ensures in
    some_still c.args.contexts.now.table c.args.caller c.in-Ok.identifier
    c.get_mut-member.result.now _ (sym c.get_mut-member.ensures.value)
    (there_named c.args.contexts.now.table c.in-Ok.identifier named.there)

pub returns-in-Ok-detach : goal.returns-in-Ok-detach
returns-in-Ok-detach g c = λ attempt shown.
    let d : Desk = over_of g.M.Memory.heap g.M.Memory.grants c.args.runtime.now
    c.args.contexts.now in
    let new : Lent = lent_of g.M.Memory.heap g.M.Memory.grants c.detach.new.context c.detach.new.runtime in
    let member : Member = c.get_mut-member.result.now in
    let found = sym c.get_mut-member.ensures.value in
    let named = subst (λ result. Names c.args.caller result d.members) c.in-Ok.is
    c.named_operand.ensures in
    let part : Desk = desk_unmade d c.args.caller member new in
    subst (λ (members : List (Option Member)). DoesBy Detach c.args.caller attempt shown
    (Ok Nothing) d (record part { members = members })) (sym c.leave.ensures)
    (detached_done c.args.caller attempt shown d c.requires.steady member found
    (runs_by d.members c.args.caller member found c.requires.runs) new c.in-Ok.identifier named
    (c.in-Ok-detach.ensures.acts attempt)
    (some_still d.members c.args.caller c.in-Ok.identifier member _ found
    (there_named d.members c.in-Ok.identifier named.there)))

pub returns-in-Err-detach : goal.returns-in-Err-detach
returns-in-Err-detach g c = λ attempt shown.
    let d : Desk = over_of g.M.Memory.heap g.M.Memory.grants c.args.runtime.now
    c.args.contexts.now in
    let new : Lent = lent_of g.M.Memory.heap g.M.Memory.grants c.detach.new.context c.detach.new.runtime in
    let member : Member = c.get_mut-member.result.now in
    let found = sym c.get_mut-member.ensures.value in
    undetached c.args.caller attempt shown d c.requires.steady member found
    (runs_by d.members c.args.caller member found c.requires.runs) new c.in-Ok.identifier
    (subst (λ result. Names c.args.caller result d.members) c.in-Ok.is c.named_operand.ensures)
    c.in-Err-detach.why (c.in-Err-detach.ensures.acts attempt)
