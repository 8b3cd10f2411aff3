use Rattle.std.proofs.Common.{◌++◌, [], ◌∷◌, arith, subst, sym, ap, ◌∙◌, refl, replicate}
use Rattle.std.proofs.lemmas.List.{length-replicate}
use Rattle.ps_language.specs.declared.kinds.Kind.TheVariants.{Array}
use Rattle.ps_language.specs.Value.{array_object}
use Rattle.ps_language.specs.Readers.{null}
use Rattle.ps_mem.specs.Heap.{Heap, birth_of, birth_at, made, zero_word}
use Rattle.ps_mem.specs.Keeps.{Extends}
use Rattle.ps_mem.specs.References.{StandsAs}
use Rattle.ps_mem.specs.Shows.{IsSound, Shows}
use Rattle.ps_mem.proofs.HeapLemmas.{next-made, object_at-made_same}
use Rattle.ps_mem.proofs.NewShows.{NewObject-made, IsSound-new_array, Shows-new_array}
use Rattle.ps_mem.proofs.ZeroLemmas.{AreValues-zeros, AreWithin-zeros, values_of-zeros}
use Rattle.ps_seq.proofs.arrays.new_array.Goals as goal

pub returns-clause-known : goal.returns-clause-known
returns-clause-known g c =
    let h = g.M.Memory.heap c.args.memory.now in
    let a = c.alloc-address.result in
    let n = c.args.count in
    subst (λ (k : Heap). StandsAs k Array a n) (sym c.alloc-address.ensures.heap)
    (record {
      object = _;
      at = object_at-made_same h a Array n;
      kind_is = refl;
      fits = let count =
          length-replicate n zero_word in omega (arith, count);
    })

pub returns-clause-sound : goal.returns-clause-sound
returns-clause-sound g c =
    let h = g.M.Memory.heap c.args.memory.now in
    let a = c.alloc-address.result in
    let n = c.args.count in
    subst IsSound (sym c.alloc-address.ensures.heap)
    (IsSound-new_array h (made h a Array n) a (replicate n zero_word)
    (NewObject-made h a Array n c.alloc-address.ensures.free) c.requires.sound
    (next-made h a Array n) (AreValues-zeros h n))

pub returns-clause-extends : goal.returns-clause-extends
returns-clause-extends g c =
    let h = g.M.Memory.heap c.args.memory.now in
    let a = c.alloc-address.result in
    let new = NewObject-made h a Array c.args.count c.alloc-address.ensures.free in
    subst (Extends h) (sym c.alloc-address.ensures.heap) new.extends

pub returns-clause-birth : goal.returns-clause-birth
unfolding birth_at
returns-clause-birth g c =
    let h = g.M.Memory.heap c.args.memory.now in
    let a = c.alloc-address.result in
    ap (λ (k : Heap). birth_at k a) c.alloc-address.ensures.heap ∙ ap birth_of
    (object_at-made_same h a Array c.args.count)

pub returns-clause-shows : goal.returns-clause-shows
returns-clause-shows g c = λ names s shows.
    let h = g.M.Memory.heap c.args.memory.now in
    let a = c.alloc-address.result in
    let n = c.args.count in
    subst (λ (k : Heap). Shows k names (s ++ array_object (replicate n null) ∷ []))
    (sym c.alloc-address.ensures.heap)
    (subst (λ vs. Shows (made h a Array n) names (s ++ array_object vs ∷ [])) (values_of-zeros
    (birth_at h) names n)
    (Shows-new_array h (made h a Array n) a (replicate n zero_word)
    (NewObject-made h a Array n c.alloc-address.ensures.free) c.requires.sound
    (next-made h a Array n) (AreValues-zeros h n) names s shows
    (AreWithin-zeros h names s n)))
