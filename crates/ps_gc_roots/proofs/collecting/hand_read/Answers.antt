use Rattle.std.proofs.Common.{refl, ◌∙◌}
use Rattle.ps_gc_roots.proofs.Moving.{over-values, over-granted}
use Rattle.ps_gc_roots.proofs.collecting.hand_read.Goals as goal

pub hand_over-requires : goal.hand_over-requires
hand_over-requires g c = record {
  values = over-values (g.M.Memory.heap c.args.runtime.now.memory)
      (g.M.Memory.heap c.args.runtime.now.memory)
      (g.M.Memory.grants c.args.runtime.now.memory) (g.M.Memory.grants c.args.runtime.now.memory)
      c.args.runtime.now.shared c.args.contexts.now c.as_slice.result.now refl
      (c.as_slice.ensures.value ∙ c.requires.read) c.requires.steady
      (g.met.M.LoggedMemory.addressed c.args.runtime.now.memory);
}

pub returns-clause-kept : goal.returns-clause-kept
returns-clause-kept g c =
    over-granted (g.M.Memory.heap c.args.runtime.now.memory) (g.M.Memory.heap c.hand_over.new.memory)
    (g.M.Memory.grants c.args.runtime.now.memory) (g.M.Memory.grants c.hand_over.new.memory)
    c.args.runtime.now.shared c.args.contexts.now c.hand_over.ensures.heap
