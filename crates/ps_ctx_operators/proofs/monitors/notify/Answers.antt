-- The condition goes.
use Rattle.ps_mem.specs.Shows.{IsValue}
use Rattle.ps_ops_operands.proofs.Held.{rest_held}
use Rattle.ps_ops_state.proofs.Direct.{words_acts}
use Rattle.ps_ctx_operators.proofs.NotifyLemmas.{notify_leaves}
use Rattle.ps_ctx_operators.proofs.monitors.notify.Goals as goal

pub returns-clause-acts : goal.returns-clause-acts
returns-clause-acts g c attempt = rw (c.discard.ensures)
    (words_acts _ attempt _ _ _ c.requires.good
    (rest_held (IsValue (g.M.Memory.heap c.args.runtime.now.memory)) _ c.requires.good.operands 1)
    (notify_leaves _ _ c.in-Some.ensures c.in-Some-condition_of.condition
    c.in-Some-condition_of.ensures.value attempt _))
