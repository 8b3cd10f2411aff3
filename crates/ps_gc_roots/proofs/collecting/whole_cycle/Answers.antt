use Rattle.std.proofs.Common.{◌≡◌, length, drop, arith, refl, sym, subst, ◌∙◌}
use Rattle.std.proofs.lemmas.List.{take_at}
use Rattle.ps_core_laws.specs.Collected.{IsCollected}
use Rattle.ps_gc_roots.proofs.Whole.{over-lives}
use Rattle.ps_gc_roots.proofs.Moving.{over-format, over-values, over-granted, over-moved}
use Rattle.ps_gc_roots.proofs.collecting.whole_cycle.Goals as goal

pub read_roots-requires-clause-format : goal.read_roots-requires-clause-format
read_roots-requires-clause-format g c =
    over-format (g.M.Memory.heap c.args.runtime.now.memory)
    (g.M.Memory.heap c.args.runtime.now.memory) (g.M.Memory.grants c.args.runtime.now.memory)
    (g.M.Memory.grants c.args.runtime.now.memory) c.args.runtime.now.shared c.args.contexts.now
    c.requires.steady (g.met.M.LoggedMemory.addressed c.args.runtime.now.memory)

pub whole_cycle-requires : goal.whole_cycle-requires
whole_cycle-requires g c = record {
  values = over-values (g.M.Memory.heap c.args.runtime.now.memory) (g.M.Memory.heap c.args.runtime.now.memory)
      (g.M.Memory.grants c.args.runtime.now.memory) (g.M.Memory.grants c.args.runtime.now.memory)
      c.args.runtime.now.shared c.args.contexts.now c.as_mut_slice.result.now refl
      (c.as_mut_slice.ensures.value ∙ c.read_roots.ensures.roots) c.requires.steady
      (g.met.M.LoggedMemory.addressed c.args.runtime.now.memory);
}

pub returns-then-not-whole_cycle-clause-kept : goal.returns-then-not-whole_cycle-clause-kept
returns-then-not-whole_cycle-clause-kept g c =
    over-granted (g.M.Memory.heap c.args.runtime.now.memory) (g.M.Memory.heap c.whole_cycle.new.memory)
    (g.M.Memory.grants c.args.runtime.now.memory) (g.M.Memory.grants c.whole_cycle.new.memory)
    c.args.runtime.now.shared c.args.contexts.now
    (c.whole_cycle.ensures.heap c.if-not-whole_cycle.true)

pub returns-clause-kept : goal.returns-clause-kept
returns-clause-kept g c =
    let moved = c.whole_cycle.new.roots in
    let count : length moved ≡ c.read_roots.new.roots.len = omega arith in
    let written : c.as_slice.result.now ≡ moved =
    c.as_slice.ensures.value ∙ take_at moved
    (drop (length moved) c.read_roots.new.roots.items) c.read_roots.new.roots.len count in
    over-moved (g.M.Memory.heap c.args.runtime.now.memory) (g.M.Memory.heap c.whole_cycle.new.memory)
    (g.M.Memory.grants c.args.runtime.now.memory) (g.M.Memory.grants c.whole_cycle.new.memory)
    c.args.runtime.now.shared c.args.contexts.now c.as_mut_slice.result.now c.as_slice.result.now c.write_roots.new.contexts
    c.requires.steady (g.met.M.LoggedMemory.addressed c.args.runtime.now.memory)
    (c.as_mut_slice.ensures.value ∙ c.read_roots.ensures.roots)
    (subst (λ words. IsCollected (g.M.Memory.heap c.args.runtime.now.memory)
    (g.M.Memory.heap c.whole_cycle.new.memory) c.as_mut_slice.result.now words) (sym written)
    (c.whole_cycle.ensures.exact c.if-not-whole_cycle.false).collected)
    c.write_roots.ensures.table c.write_roots.ensures.faulted

pub returns-clause-lives : goal.returns-clause-lives
returns-clause-lives g c = λ yes w at.
    over-lives (g.M.Memory.heap c.args.runtime.now.memory) (g.M.Memory.heap c.whole_cycle.new.memory)
    (g.M.Memory.grants c.args.runtime.now.memory) c.args.runtime.now.shared c.args.contexts.now c.as_mut_slice.result.now
    c.whole_cycle.new.roots c.requires.steady (g.met.M.LoggedMemory.addressed c.args.runtime.now.memory)
    (c.as_mut_slice.ensures.value ∙ c.read_roots.ensures.roots)
    (c.whole_cycle.ensures.exact c.if-not-whole_cycle.false) w at
