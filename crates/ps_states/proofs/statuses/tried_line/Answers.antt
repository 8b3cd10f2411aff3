use Rattle.std.proofs.Common.{◌∙◌}
use Rattle.ps_mem.specs.Heap.{birth_at}
use Rattle.ps_states.proofs.Calling.{tried_is_lock}
use Rattle.ps_states.proofs.statuses.tried_line.Goals as goal

pub returns-in-None-clause-line : goal.returns-in-None-clause-line
returns-in-None-clause-line g c = λ names s shows.
    let h = g.M.Memory.heap c.args.memory.now in
    c.lock_line.ensures.line names s shows
    ∙ tried_is_lock h names s c.args.operands.now c.in-Some.top c.in-Some.ensures
    (c.in-None.ensures (birth_at h) names)
