use Rattle.std.proofs.Common.{◌≡◌, ◌++◌, ap, ◌∙◌}
use Rattle.std.proofs.lemmas.Result.{on_ok_weaker}
use Rattle.ps_ctx_table.specs.Worlds.{context_of}
use Rattle.ps_views.specs.declared.states.StatusLine.{StatusLine}
use Rattle.ps_views.specs.States.{context_text}
use Rattle.ps_views.proofs.Appended.{three}
use Rattle.ps_states.specs.States.{context_line, context_lines}
use Rattle.ps_states.proofs.contexts.append_lines.Goals as goal

pub returns-clause-lines : goal.returns-clause-lines
unfolding context_lines
returns-clause-lines g c = λ s shown.
    let h = g.M.Memory.heap c.args.runtime.now.memory in
    let names = c.args.runtime.now.shared.names in
    let first : c.append_context.new.to.items ≡ c.args.to.now.items
    ++ context_line s c.args.subject.is_ready c.args.subject.identifier (context_of h names c.args.member.now) =
    c.in_ok-append_context.ensures.appended
    ∙ ap (λ (status : StatusLine). c.args.to.now.items ++ context_text (record {
      identifier = c.args.subject.identifier;
      is_detached = c.args.member.now.is_detached;
      status = status;
    })) (c.status_line.ensures.line names s shown.shows) in
    let second = c.in_ok-append_coming.ensures.line in
    let coming = rw c.status_line.ensures.heap at second in
    let third = c.append_stacks.ensures.lines in
    let stacks = rw (c.append_coming.ensures.heap, c.status_line.ensures.heap, c.append_coming.ensures.shared) at third in
    on_ok_weaker c.append_stacks.result
    (three c.args.to.now.items c.append_context.new.to.items c.append_coming.new.to.items
    c.append_stacks.new.to.items _ _ _ first (coming s shown))
    (stacks s shown)
