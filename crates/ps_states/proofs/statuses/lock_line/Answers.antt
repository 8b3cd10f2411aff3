use Rattle.std.proofs.Common.{◌≡◌, Some, sym, ap, ◌∙◌}
use Rattle.ps_mem.specs.Heap.{birth_at}
use Rattle.ps_views.specs.declared.states.StatusLine.TheVariants.{InMonitor}
use Rattle.ps_states.specs.Statuses.{lock_line, lock_below}
use Rattle.ps_ops_operands.specs.Changes.{values_in}
use Rattle.ps_states.proofs.Calling.{second_is}
use Rattle.ps_states.proofs.statuses.lock_line.Goals as goal

pub returns-in-Some-lock_of-clause-line : goal.returns-in-Some-lock_of-clause-line
returns-in-Some-lock_of-clause-line g c = λ names s shows.
    let h = g.M.Memory.heap c.args.memory.now in
    let told = c.owner_or_none.ensures.owner in
    let owner = rw c.birth_of.ensures.heap at told in
    let below : Some (birth_at h c.in-Some-lock_of.lock)
    ≡ lock_below (values_in h names c.args.operands.now) =
    sym (c.in-Some-lock_of.ensures.value (birth_at h) names)
    ∙ second_is h names c.args.operands.now (c.in-Some._body, c.in-Some.second) c.in-Some.ensures in
    (λ i. InMonitor (c.birth_of.ensures.birth i) (owner names s shows i)) ∙ ap (lock_line s) below
