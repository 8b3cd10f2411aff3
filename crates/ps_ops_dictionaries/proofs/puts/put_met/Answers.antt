-- The pair is put, or they are too many.
use Rattle.std.proofs.Common.{refl}
use Rattle.ps_language.specs.declared.errors.ErrorName.TheVariants.{LimitCheck}
use Rattle.ps_mem.specs.Heap.{birth_at}
use Rattle.ps_mem.specs.Meaning.{value_of}
use Rattle.ps_ops_state.specs.Lent.{lent}
use Rattle.ps_ops_state.proofs.Acting.{raised_acts}
use Rattle.ps_ops_dictionaries.proofs.Putting.{full_raises}
use Rattle.ps_ops_dictionaries.proofs.puts.put_met.Goals as goal

pub returns-in-Full-clause-acts : goal.returns-in-Full-clause-acts
returns-in-Full-clause-acts g c =
    let heap = g.M.Memory.heap c.args.runtime.now.memory in
    rw (c.plan_put-plan.ensures.heap, c.plan_put-plan.ensures.grants)
    (λ inside. raised_acts _ _ _ _ c.requires.good LimitCheck λ store shown.
    full_raises (lent heap (g.M.Memory.grants c.args.runtime.now.memory) c.args.context.now
    c.args.runtime.now.shared) c.args.entry.address c.args.entry.key c.args.entry.value
    c.args.entry.operands store
    ((c.plan_put-plan.ensures.full c.args.runtime.now.shared.names store shown.shows c.requires.good.names.different
    (inside store shown).0
    (value_of (birth_at heap) c.args.runtime.now.shared.names c.args.entry.value)).0 c.in-Full.is))

pub returns-in-Replace-clause-acts : goal.returns-in-Replace-clause-acts
returns-in-Replace-clause-acts g c =
    let acts = rw (c.plan_put-plan.ensures.heap, c.plan_put-plan.ensures.grants)
    at c.put_planned.ensures.acts in
    λ inside. acts c.args.attempt refl (λ refused. rw c.in-Replace.is refl) inside

pub returns-in_default-clause-acts : goal.returns-in_default-clause-acts
returns-in_default-clause-acts g c =
    rw (c.plan_put-plan.ensures.heap, c.plan_put-plan.ensures.grants) at c.put_new.ensures.acts
