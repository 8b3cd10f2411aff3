-- By what is tried again.
use Rattle.std.proofs.Common.{sym, ap, ◌∙◌}
use Rattle.ps_language.specs.Effect.{Calling}
use Rattle.ps_language.specs.Locks.{is_wait}
use Rattle.ps_ops_operands.specs.Changes.{values_in}
use Rattle.ps_ctx_operators.specs.Deeds.{scene_at}
use Rattle.ps_ctx_operators.specs.Rows.{is_waiting, monitor_part}
use Rattle.ps_ctx_operators.proofs.DeedLaws as deeds
use Rattle.ps_ctx.proofs.Retrying.{tries_join, tries_monitor}
use Rattle.ps_ctx_operators.proofs.Ready.{none_waits}
use Rattle.ps_ctx_operators.proofs.readiness.waits_again.Goals as goal

pub returns-in_default-clause-waits : goal.returns-in_default-clause-waits
returns-in_default-clause-waits g c = λ names call caller shows at.
    none_waits (g.M.Memory.heap c.args.memory.now) names c.args.operands.now call
    (sym c.top.ensures ∙ c.in_default.is)

pub returns-in-Integer-clause-waits : goal.returns-in-Integer-clause-waits
returns-in-Integer-clause-waits g c = λ names call caller shows at.
    let h = g.M.Memory.heap c.args.memory.now in
    let held = values_in h names c.args.operands.now in
    c.join_waits.ensures h names call caller at
    ∙ ap (λ (calling : Calling). is_wait (calling.deed held call))
    (tries_join h names c.args.operands.now c.in-Some.top (sym c.top.ensures ∙ c.in-Some.is) _
    (sym c.content.ensures ∙ c.in-Integer.is))

pub returns-in_default-content : goal.returns-in_default-content
returns-in_default-content g c =
    let h = g.M.Memory.heap c.args.memory.now in
    record {
      heap = c.monitor_waits.ensures.heap;
      grants = c.monitor_waits.ensures.grants;
      waits = λ names call caller shows at.
          let held = values_in h names c.args.operands.now in
          c.monitor_waits.ensures.waits names (scene_at call) shows
          ∙ (ap (λ n. is_waiting (monitor_part n held (scene_at call))) (sym caller)
          ∙ (sym (deeds.monitor_waits call held)
          ∙ ap (λ (calling : Calling). is_wait (calling.deed held call))
          (tries_monitor h names c.args.operands.now c.in-Some.top
          (sym c.top.ensures ∙ c.in-Some.is) c.content.result (sym c.content.ensures)
          c.in_default-content.not-Integer)));
    }
