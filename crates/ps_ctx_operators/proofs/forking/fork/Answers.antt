-- A context is made, or none is.
use Rattle.std.proofs.Common.{◌∙◌, ◌<◌, List, [], ◌∷◌, ◌++◌, Option, Some, Ok, Err, sym, ap, subst}
use Rattle.ps_step_outcome.specs.declared.world_operators.WorldOperator.TheVariants.{Fork}
use Rattle.ps_ops_state.specs.declared.breaks.Break.{Break}
use Rattle.ps_ops_state.specs.Lent.{Lent, lent_of}
use Rattle.ps_ctx_table.specs.declared.members.Member.{Member}
use Rattle.ps_ctx_table.specs.Desks.{Desk, desk_unmade, IsGoodMember}
use Rattle.ps_ctx_table.proofs.Turning.{member_at}
use Rattle.ps_ctx.specs.declared.notes.Note.TheVariants.{Nothing}
use Rattle.ps_ctx.specs.Calls.{over_of}
use Rattle.ps_ctx_operators.specs.Done.{DoesBy}
use Rattle.ps_ctx_operators.proofs.Ending.{runs_by}
use Rattle.ps_ctx_operators.proofs.ForkDone.{seat_below, given_seat, forked_done, seatless_done, unforked_done}
use Rattle.ps_ctx_operators.proofs.Others.{count_left-same}
use Rattle.ps_ctx_operators.proofs.forking.fork.Goals as goal

pub fork-requires-clause-seat : goal.fork-requires-clause-seat
fork-requires-clause-seat g c =
    let d : Desk = over_of g.M.Memory.heap g.M.Memory.grants c.args.runtime.now
    c.args.contexts.now in
    seat_below d.heap d.names d.members c.seat-seat.result (c.seat-seat.ensures.seat d.heap d.names)
    c.seat-seat.ensures.within

pub fork-requires-clause-good : goal.fork-requires-clause-good
fork-requires-clause-good g c =
    let d : Desk = over_of g.M.Memory.heap g.M.Memory.grants c.args.runtime.now
    c.args.contexts.now in
    (member_at (IsGoodMember d) d.members c.args.caller c.get_mut-member.result.now
    c.requires.steady.members (sym c.get_mut-member.ensures.value)).good

pub push_reserved-requires-clause-few : goal.push_reserved-requires-clause-few
push_reserved-requires-clause-few g c =
    subst (λ n. n < 32) (sym (count_left-same c.args.contexts.now.table c.args.caller
    c.get_mut-member.result.now _ (sym c.get_mut-member.ensures.value)))
    (given_seat c.seat-seat.result (sym c.is_some.ensures ∙ c.if-is_some.true)
    c.seat-seat.ensures.few)

pub returns-then-is_some : goal.returns-then-is_some
returns-then-is_some g c = λ shown.
    let d : Desk = over_of g.M.Memory.heap g.M.Memory.grants c.args.runtime.now
    c.args.contexts.now in
    let new : Lent = lent_of g.M.Memory.heap g.M.Memory.grants c.fork.new.context c.fork.new.runtime in
    let member : Member = c.get_mut-member.result.now in
    let found = sym c.get_mut-member.ensures.value in
    let part : Desk = desk_unmade d c.args.caller member new in
    subst (λ (members : List (Option Member)). DoesBy Fork c.args.caller c.args.attempt shown
    (Ok Nothing) d (record part { members = members }))
    (sym (c.push_reserved.ensures ∙ ap (λ (one : Member). part.members ++ Some one ∷ [])
    c.begun_member.ensures))
    (forked_done c.args.caller c.args.attempt shown d c.requires.steady member found
    (runs_by d.members c.args.caller member found c.requires.runs) c.seat-seat.result
    c.seat-seat.ensures.seat new c.in-Ok.begun c.in-Ok.ensures.forks c.in-Ok.ensures.forked)

pub returns-else-is_some : goal.returns-else-is_some
returns-else-is_some g c = λ shown.
    let d : Desk = over_of g.M.Memory.heap g.M.Memory.grants c.args.runtime.now
    c.args.contexts.now in
    let new : Lent = lent_of g.M.Memory.heap g.M.Memory.grants c.fork.new.context c.fork.new.runtime in
    let member : Member = c.get_mut-member.result.now in
    let found = sym c.get_mut-member.ensures.value in
    seatless_done c.args.caller c.args.attempt shown d c.requires.steady member found
    (runs_by d.members c.args.caller member found c.requires.runs) c.seat-seat.result
    c.seat-seat.ensures.seat new c.in-Ok.begun c.in-Ok.ensures.forks
    (sym c.is_some.ensures ∙ c.if-is_some.false)

pub returns-in-Err : goal.returns-in-Err
returns-in-Err g c = λ shown.
    let d : Desk = over_of g.M.Memory.heap g.M.Memory.grants c.args.runtime.now
    c.args.contexts.now in
    let new : Lent = lent_of g.M.Memory.heap g.M.Memory.grants c.fork.new.context c.fork.new.runtime in
    let member : Member = c.get_mut-member.result.now in
    let found = sym c.get_mut-member.ensures.value in
    subst (λ (why : Break). DoesBy Fork c.args.caller c.args.attempt shown (Err why) d
    (desk_unmade d c.args.caller member new)) (sym c.break_of.ensures)
    (unforked_done c.args.caller c.args.attempt shown d c.requires.steady member found
    (runs_by d.members c.args.caller member found c.requires.runs) c.seat-seat.result
    c.seat-seat.ensures.seat new c.in-Err.why c.in-Err.ensures.forks)
