use Rattle.std.proofs.Common.{◌≡◌, length, drop, arith, refl, sym, subst, ◌∙◌}
use Rattle.std.proofs.lemmas.List.{take_at}
use Rattle.ps_core_laws.specs.Collected.{IsCollected}
use Rattle.ps_gc_roots.proofs.Moving.{over-values, over-moved}
use Rattle.ps_gc_roots.proofs.collecting.end_read.Goals as goal

pub end_cycle-requires : goal.end_cycle-requires
end_cycle-requires g c = record {
  values = over-values (g.M.Memory.heap c.args.runtime.now.memory) (g.M.Memory.heap c.args.runtime.now.memory)
      (g.M.Memory.grants c.args.runtime.now.memory) (g.M.Memory.grants c.args.runtime.now.memory)
      c.args.runtime.now.shared c.args.contexts.now c.as_mut_slice.result.now refl
      (c.as_mut_slice.ensures.value ∙ c.requires.read) c.requires.steady
      (g.met.M.LoggedMemory.addressed c.args.runtime.now.memory);
}

pub returns-clause-kept : goal.returns-clause-kept
returns-clause-kept g c =
    let moved = c.end_cycle.new.roots in
    let count : length moved ≡ c.args.roots.now.words.len = omega arith in
    let written : c.as_slice.result.now ≡ moved =
    c.as_slice.ensures.value ∙ take_at moved
    (drop (length moved) c.args.roots.now.words.items) c.args.roots.now.words.len count in
    over-moved (g.M.Memory.heap c.args.runtime.now.memory) (g.M.Memory.heap c.end_cycle.new.memory)
    (g.M.Memory.grants c.args.runtime.now.memory) (g.M.Memory.grants c.end_cycle.new.memory)
    c.args.runtime.now.shared c.args.contexts.now c.as_mut_slice.result.now c.as_slice.result.now c.write_roots.new.contexts
    c.requires.steady (g.met.M.LoggedMemory.addressed c.args.runtime.now.memory)
    (c.as_mut_slice.ensures.value ∙ c.requires.read)
    (subst (λ words. IsCollected (g.M.Memory.heap c.args.runtime.now.memory)
    (g.M.Memory.heap c.end_cycle.new.memory) c.as_mut_slice.result.now words) (sym written)
    (c.end_cycle.ensures.moved (c.end_cycle.ensures.ended ∙ c.requires.«open»)))
    c.write_roots.ensures.table c.write_roots.ensures.faulted

pub returns-clause-space : goal.returns-clause-space
returns-clause-space g c =
    (c.end_cycle.ensures.moved (c.end_cycle.ensures.ended ∙ c.requires.«open»)).moves.space
