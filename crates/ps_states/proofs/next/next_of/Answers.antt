use Rattle.std.proofs.Common.{sym, ap, ◌∙◌}
use Rattle.ps_mem.specs.Heap.{birth_at}
use Rattle.ps_ctx_table.specs.declared.members.Course.{Course}
use Rattle.ps_ctx_table.specs.Worlds.{context_of, status_of}
use Rattle.ps_states.specs.Chosen.{chart_of}
use Rattle.ps_states.specs.Next.{next_of, next_by}
use Rattle.ps_states.proofs.next.next_of.Goals as goal

pub returns-in-Unwinding-clause-next : goal.returns-in-Unwinding-clause-next
unfolding next_of
returns-in-Unwinding-clause-next g c = λ s shown.
    let h = g.M.Memory.heap c.args.runtime.now.memory in
    let names = c.args.runtime.now.shared.names in
    c.unwinding_next.ensures.next names
    ∙ ap (λ (course : Course). next_by (chart_of c.args.chart.now) s (context_of h names c.args.member.now)
    (status_of (birth_at h) course)) (sym c.in-Unwinding.is)
