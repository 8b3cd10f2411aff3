use Rattle.ps_gc_roots.proofs.Moving.{over-granted}
use Rattle.ps_gc_roots.proofs.collecting.open_cycle.Goals as goal

pub returns-clause-kept : goal.returns-clause-kept
returns-clause-kept g c =
    over-granted (g.M.Memory.heap c.args.runtime.now.memory) (g.M.Memory.heap c.open_cycle.new.self)
    (g.M.Memory.grants c.args.runtime.now.memory) (g.M.Memory.grants c.open_cycle.new.self)
    c.args.runtime.now.shared c.args.contexts.now c.open_cycle.ensures.heap
