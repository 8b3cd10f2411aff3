use Rattle.std.proofs.Common.{◌++◌, sym, ap, ◌∙◌}
use Rattle.std.proofs.lemmas.List.{append-nil}
use Rattle.std.proofs.lemmas.Result.{on_ok_weaker}
use Rattle.ps_ctx_table.specs.Desks.{Desk, IsGoodMember}
use Rattle.ps_ctx_table.proofs.Turning.{member_at}
use Rattle.ps_ctx.specs.Calls.{over_of}
use Rattle.ps_ctx_readers.proofs.There.{of_there, of_none}
use Rattle.ps_states.specs.States.{lock_lines}
use Rattle.ps_states.proofs.Each.{of_one}
use Rattle.ps_states.proofs.Members.{held_of}
use Rattle.ps_states.proofs.states.append_locks_at.Goals as goal

pub returns-in_default-clause-lines : goal.returns-in_default-clause-lines
returns-in_default-clause-lines g c = λ w is.
    sym (append-nil c.args.to.now.items) ∙ ap (λ line. c.args.to.now.items ++ line)
    (of_none _ w is c.args.identifier (of_one (lock_lines w.store) c.args.identifier) c.in_default.ensures.item)

pub append_locks-requires-clause-held : goal.append_locks-requires-clause-held
append_locks-requires-clause-held g c =
    let d : Desk = over_of g.M.Memory.heap g.M.Memory.grants c.args.runtime.now c.args.contexts.now in
    held_of d c.in-Some.member.now (member_at (IsGoodMember d) d.members c.args.identifier c.in-Some.member.now
    c.requires.steady.members (sym c.in-Some.ensures.item))

pub returns-clause-lines : goal.returns-clause-lines
returns-clause-lines g c = λ w is.
    on_ok_weaker c.append_locks.result
    (λ told. told ∙ ap (λ line. c.args.to.now.items ++ line)
    (of_there _ w is c.args.identifier (of_one (lock_lines w.store) c.args.identifier) c.in-Some.member.now
    c.in-Some.ensures.item))
    (c.append_locks.ensures.lines c.args.runtime.now.shared.names w.store is.shows)
