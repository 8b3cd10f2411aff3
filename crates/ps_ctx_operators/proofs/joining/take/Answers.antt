-- The operands go over; where they don't there is no world.
use Rattle.ps_ops_state.specs.Lent.{Lent, lent_of}
use Rattle.ps_ctx_table.specs.Desks.{Desk}
use Rattle.ps_ctx.specs.Calls.{over_of}
use Rattle.ps_ctx_operators.proofs.JoinDone.{good_before, joined_so, unjoined_so}
use Rattle.ps_ctx_operators.proofs.joining.take.Goals as goal

pub join-requires-clause-good : goal.join-requires-clause-good
join-requires-clause-good g c =
    let d : Desk = over_of g.M.Memory.heap g.M.Memory.grants c.args.runtime.now
    c.args.contexts.now in
    good_before c.args.caller c.args.identifier d c.requires.steady c.requires.hands
    c.remove.new.self c.in-Some.ensures.after c.get_mut-member.result.now
    c.get_mut-member.ensures.value

pub returns-in-Ok : goal.returns-in-Ok
returns-in-Ok g c = λ attempt shown.
    let d : Desk = over_of g.M.Memory.heap g.M.Memory.grants c.args.runtime.now
    c.args.contexts.now in
    let new : Lent = lent_of g.M.Memory.heap g.M.Memory.grants c.join.new.context c.join.new.runtime in
    joined_so c.args.caller c.args.identifier d c.requires.steady c.requires.hands
    c.remove.new.self c.in-Some.ensures.after c.get_mut-member.result.now
    c.get_mut-member.ensures.value attempt shown c.requires.runs c.in-Some.other
    c.in-Some.ensures.removed new (c.in-Ok.ensures.acts attempt)

pub returns : goal.returns
returns g c = λ attempt shown.
    let d : Desk = over_of g.M.Memory.heap g.M.Memory.grants c.args.runtime.now
    c.args.contexts.now in
    let new : Lent = lent_of g.M.Memory.heap g.M.Memory.grants c.join.new.context c.join.new.runtime in
    unjoined_so c.args.caller c.args.identifier d c.requires.steady c.requires.hands
    c.remove.new.self c.in-Some.ensures.after c.get_mut-member.result.now
    c.get_mut-member.ensures.value attempt shown c.requires.runs c.in-Some.other
    c.in-Some.ensures.removed new c.in-Err.why (c.in-Err.ensures.acts attempt)
