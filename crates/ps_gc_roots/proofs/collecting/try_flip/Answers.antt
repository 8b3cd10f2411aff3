use Rattle.std.proofs.Common.{◌≡◌, true≢false, List, length, drop, arith, refl, sym, subst, ap, ◌∙◌}
use Rattle.std.specs.Prelude.{Result, is_ok}
use Rattle.std.proofs.lemmas.List.{take_at}
use Rattle.ps_word.specs.declared.words.Word.{Word}
use Rattle.ps_core_laws.specs.declared.tries.Unready.{Unready}
use Rattle.ps_core_laws.specs.Collected.{IsCollected}
use Rattle.ps_core_laws.specs.Tries.{BothSides, IsFlip, sides_of}
use Rattle.ps_gc_roots.proofs.Moving.{over-format, over-values, over-granted, over-moved}
use Rattle.ps_gc_roots.proofs.collecting.try_flip.Goals as goal

pub read_roots-requires-clause-format : goal.read_roots-requires-clause-format
read_roots-requires-clause-format g c =
    over-format (g.M.Memory.heap c.args.runtime.now.memory)
    (g.M.Memory.heap c.args.runtime.now.memory) (g.M.Memory.grants c.args.runtime.now.memory)
    (g.M.Memory.grants c.args.runtime.now.memory) c.args.runtime.now.shared c.args.contexts.now
    c.requires.steady (g.met.M.LoggedMemory.addressed c.args.runtime.now.memory)

pub try_flip-requires-clause-values : goal.try_flip-requires-clause-values
try_flip-requires-clause-values g c =
    over-values (g.M.Memory.heap c.args.runtime.now.memory)
    (g.M.Memory.heap c.args.runtime.now.memory)
    (g.M.Memory.grants c.args.runtime.now.memory) (g.M.Memory.grants c.args.runtime.now.memory)
    c.args.runtime.now.shared c.args.contexts.now c.as_mut_slice.result.now refl
    (c.as_mut_slice.ensures.value ∙ c.read_roots.ensures.roots) c.requires.steady
    (g.met.M.LoggedMemory.addressed c.args.runtime.now.memory)

-- ---- no flip

pub returns-in-Err-clause-kept : goal.returns-in-Err-clause-kept
returns-in-Err-clause-kept g c =
    over-granted (g.M.Memory.heap c.args.runtime.now.memory) (g.M.Memory.heap c.try_flip.new.memory)
    (g.M.Memory.grants c.args.runtime.now.memory) (g.M.Memory.grants c.try_flip.new.memory)
    c.args.runtime.now.shared c.args.contexts.now
    (c.try_flip.ensures.flips.heap_stays (ap is_ok c.in-Err.is))

pub returns-in-Err-clause-answer : goal.returns-in-Err-clause-answer
returns-in-Err-clause-answer g c =
    let read = c.as_mut_slice.ensures.value ∙ c.read_roots.ensures.roots in
    subst (λ (x : Result Unit Unready × List Word). g.C.Collects.answers c.args.collector.now
    c.args.runtime.now.memory x.1 x.0) (λ i. (c.in-Err.is i, read i))
    c.try_flip.ensures.answer

pub returns-in-Err-clause-flips : goal.returns-in-Err-clause-flips
returns-in-Err-clause-flips g c =
    let old : BothSides = sides_of g.M.Memory.heap g.M.Memory.grants g.M.LoggedMemory.did
    g.C.Collects.did c.args.runtime.now.memory c.args.collector.now in
    let new : BothSides = sides_of g.M.Memory.heap g.M.Memory.grants g.M.LoggedMemory.did
    g.C.Collects.did c.try_flip.new.memory c.try_flip.new.self in
    let moved = c.try_flip.new.roots in
    let count : length moved ≡ c.read_roots.new.roots.len = omega arith in
    let read = c.as_mut_slice.ensures.value ∙ c.read_roots.ensures.roots in
    let left = take_at moved (drop (length moved) c.read_roots.new.roots.items)
    c.read_roots.new.roots.len count in
    let few = c.read_roots.ensures.few in
    let all = ap length c.read_roots.ensures.roots in
    record {
      flips = subst (λ (x : Result Unit Unready × List Word × List Word). IsFlip x.0 old new x.1 x.2)
          (λ i. (c.in-Err.is i, read i, sym left i)) c.try_flip.ensures.flips;
      few = omega (arith, few, all);
      written = λ yes. absurd (true≢false (sym yes));
      stays = λ no. refl;
    }

-- ---- the flip

pub returns-in-Ok-clause-kept : goal.returns-in-Ok-clause-kept
returns-in-Ok-clause-kept g c =
    let moved = c.try_flip.new.roots in
    let count : length moved ≡ c.read_roots.new.roots.len = omega arith in
    let written : c.as_slice.result.now ≡ moved =
    c.as_slice.ensures.value ∙ take_at moved
    (drop (length moved) c.read_roots.new.roots.items) c.read_roots.new.roots.len count in
    over-moved (g.M.Memory.heap c.args.runtime.now.memory) (g.M.Memory.heap c.try_flip.new.memory)
    (g.M.Memory.grants c.args.runtime.now.memory) (g.M.Memory.grants c.try_flip.new.memory)
    c.args.runtime.now.shared c.args.contexts.now c.as_mut_slice.result.now c.as_slice.result.now
    c.write_roots.new.contexts c.requires.steady (g.met.M.LoggedMemory.addressed c.args.runtime.now.memory)
    (c.as_mut_slice.ensures.value ∙ c.read_roots.ensures.roots)
    (subst (λ words. IsCollected (g.M.Memory.heap c.args.runtime.now.memory)
    (g.M.Memory.heap c.try_flip.new.memory) c.as_mut_slice.result.now words) (sym written)
    (c.try_flip.ensures.flips.moved (ap is_ok c.in-Ok.is)))
    c.write_roots.ensures.table c.write_roots.ensures.faulted

pub returns-in-Ok-clause-answer : goal.returns-in-Ok-clause-answer
returns-in-Ok-clause-answer g c =
    let read = c.as_mut_slice.ensures.value ∙ c.read_roots.ensures.roots in
    subst (λ (x : Result Unit Unready × List Word). g.C.Collects.answers c.args.collector.now
    c.args.runtime.now.memory x.1 x.0) (λ i. (c.in-Ok.is i, read i))
    c.try_flip.ensures.answer

pub returns-in-Ok-clause-flips : goal.returns-in-Ok-clause-flips
returns-in-Ok-clause-flips g c =
    let old : BothSides = sides_of g.M.Memory.heap g.M.Memory.grants g.M.LoggedMemory.did
    g.C.Collects.did c.args.runtime.now.memory c.args.collector.now in
    let new : BothSides = sides_of g.M.Memory.heap g.M.Memory.grants g.M.LoggedMemory.did
    g.C.Collects.did c.try_flip.new.memory c.try_flip.new.self in
    let moved = c.try_flip.new.roots in
    let count : length moved ≡ c.read_roots.new.roots.len = omega arith in
    let read = c.as_mut_slice.ensures.value ∙ c.read_roots.ensures.roots in
    let left = take_at moved (drop (length moved) c.read_roots.new.roots.items)
    c.read_roots.new.roots.len count in
    let few = c.read_roots.ensures.few in
    let all = ap length c.read_roots.ensures.roots in
    record {
      flips = subst (λ (x : Result Unit Unready × List Word × List Word). IsFlip x.0 old new x.1 x.2)
          (λ i. (c.in-Ok.is i, read i, sym left i)) c.try_flip.ensures.flips;
      few = omega (arith, few, all);
      written = λ yes rename is.
          c.write_roots.ensures.table rename (c.as_slice.ensures.value ∙ is);
      stays = λ no. absurd (true≢false no);
    }
