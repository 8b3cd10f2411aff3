-- The roots that are read have a place in a word.
use Rattle.ps_gc_roots.proofs.Moving.{over-format}
use Rattle.ps_gc_roots.proofs.collecting.hand_over.Goals as goal

pub read_roots-requires-clause-format : goal.read_roots-requires-clause-format
read_roots-requires-clause-format g c =
    over-format (g.M.Memory.heap c.args.runtime.now.memory)
    (g.M.Memory.heap c.args.runtime.now.memory) (g.M.Memory.grants c.args.runtime.now.memory)
    (g.M.Memory.grants c.args.runtime.now.memory) c.args.runtime.now.shared c.args.contexts.now
    c.requires.steady (g.met.M.LoggedMemory.addressed c.args.runtime.now.memory)
