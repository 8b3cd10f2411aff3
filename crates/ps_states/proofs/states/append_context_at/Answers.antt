use Rattle.std.proofs.Common.{◌++◌, sym, ap, ◌∙◌}
use Rattle.std.proofs.lemmas.List.{append-nil}
use Rattle.std.proofs.lemmas.Result.{on_ok_weaker}
use Rattle.ps_ops_state.specs.Lent.{IsShown}
use Rattle.ps_ctx_table.specs.declared.members.Member.{Member}
use Rattle.ps_ctx_table.specs.Desks.{Desk, IsGoodMember, lent_to}
use Rattle.ps_ctx_table.specs.Worlds.{context_of}
use Rattle.ps_ctx_table.proofs.Turning.{member_at}
use Rattle.ps_ctx.specs.Calls.{over_of}
use Rattle.ps_ctx_readers.proofs.There.{of_there, of_none}
use Rattle.ps_states.specs.Chosen.{chart_of}
use Rattle.ps_states.specs.States.{context_lines, lines_in}
use Rattle.ps_states.proofs.Each.{of_one}
use Rattle.ps_states.proofs.Members.{held_of, shown_of}
use Rattle.ps_states.proofs.states.append_context_at.Goals as goal

pub returns-in_default-clause-lines : goal.returns-in_default-clause-lines
returns-in_default-clause-lines g c = λ w is.
    sym (append-nil c.args.to.now.items) ∙ ap (λ line. c.args.to.now.items ++ line)
    (of_none _ w is c.args.identifier (of_one (lines_in (chart_of c.args.chart.now) w) c.args.identifier)
    c.in_default.ensures.item)

pub append_lines-requires-clause-held : goal.append_lines-requires-clause-held
append_lines-requires-clause-held g c =
    let d : Desk = over_of g.M.Memory.heap g.M.Memory.grants c.args.runtime.now c.args.crowd.now.contexts.now in
    rw c.is_ready-is_ready.ensures.heap
    (held_of d c.in-Some.member.now (member_at (IsGoodMember d) d.members c.args.identifier c.in-Some.member.now
    c.requires.steady.members (sym c.in-Some.ensures.item)))

pub returns-clause-lines : goal.returns-clause-lines
returns-clause-lines g c = λ w is.
    let d : Desk = over_of g.M.Memory.heap g.M.Memory.grants c.args.runtime.now c.args.crowd.now.contexts.now in
    let chart = chart_of c.args.chart.now in
    let lines = c.append_lines.ensures.lines in
    let told = rw (c.is_ready-is_ready.ensures.heap, c.is_ready-is_ready.ensures.shared) at lines in
    let shown = shown_of d w.store c.in-Some.member.now
    (member_at (λ (member : Member). IsShown (lent_to d member.context) w.store) d.members c.args.identifier
    c.in-Some.member.now is.members (sym c.in-Some.ensures.item)) in
    on_ok_weaker c.append_lines.result
    (λ ended. ended
    ∙ ap (λ ready. c.args.to.now.items ++ context_lines chart w.store ready c.args.identifier
    (context_of d.heap d.names c.in-Some.member.now)) (c.is_ready-is_ready.ensures.ready w is)
    ∙ ap (λ line. c.args.to.now.items ++ line)
    (of_there _ w is c.args.identifier (of_one (lines_in chart w) c.args.identifier) c.in-Some.member.now
    c.in-Some.ensures.item))
    (told w.store shown)
