use Rattle.std.proofs.Common.{◌≡◌, ◌++◌, sym, ap, ◌∙◌}
use Rattle.std.proofs.lemmas.List.{append-nil}
use Rattle.std.proofs.lemmas.Result.{on_ok_weaker}
use Rattle.ps_ctx_table.specs.Desks.{Desk, IsGoodMember}
use Rattle.ps_ctx_table.specs.Worlds.{context_of}
use Rattle.ps_ctx_table.proofs.Turning.{member_at}
use Rattle.ps_ctx.specs.Calls.{over_of}
use Rattle.ps_ctx_readers.proofs.There.{of_there, of_none}
use Rattle.ps_views.specs.declared.states.StatusLine.{StatusLine}
use Rattle.ps_views.specs.States.{context_text}
use Rattle.ps_states.specs.Statuses.{status_line}
use Rattle.ps_states.specs.Waits.{status_in}
use Rattle.ps_states.proofs.Each.{of_one}
use Rattle.ps_states.proofs.Members.{held_of}
use Rattle.ps_states.proofs.waits.append_status_at.Goals as goal

pub returns-in_default-clause-line : goal.returns-in_default-clause-line
returns-in_default-clause-line g c = λ w is.
    sym (append-nil c.args.to.now.items) ∙ ap (λ line. c.args.to.now.items ++ line)
    (of_none _ w is c.args.identifier (of_one (status_in w) c.args.identifier)
    c.in_default.ensures.item)

pub status_line-requires-clause-held : goal.status_line-requires-clause-held
status_line-requires-clause-held g c =
    let d : Desk = over_of g.M.Memory.heap g.M.Memory.grants c.args.runtime.now
    c.args.crowd.now.contexts.now in
    rw c.is_ready-is_ready.ensures.heap
    (held_of d c.in-Some.member.now (member_at (IsGoodMember d) d.members c.args.identifier
    c.in-Some.member.now c.requires.steady.members (sym c.in-Some.ensures.item)))

pub returns-clause-line : goal.returns-clause-line
returns-clause-line g c = λ w is.
    let d : Desk = over_of g.M.Memory.heap g.M.Memory.grants c.args.runtime.now
    c.args.crowd.now.contexts.now in
    let to = c.args.to.now.items in
    let one = context_of d.heap d.names c.in-Some.member.now in
    let line = c.status_line.ensures.line in
    let told = rw c.is_ready-is_ready.ensures.heap at line in
    let status : c.status_line.result
    ≡ status_line w.store c.is_ready-is_ready.result one = told d.names w.store is.shows in
    on_ok_weaker c.append_context.result
    (λ ended. ended
    ∙ ap (λ (status : StatusLine). to ++ context_text (record {
      identifier = c.args.identifier;
      is_detached = c.in-Some.member.now.is_detached;
      status = status;
    })) (status ∙ ap (λ ready. status_line w.store ready one)
    (c.is_ready-is_ready.ensures.ready w is))
    ∙ ap (λ line. to ++ line)
    (of_there _ w is c.args.identifier (of_one (status_in w) c.args.identifier)
    c.in-Some.member.now c.in-Some.ensures.item))
    c.append_context.ensures.appended
