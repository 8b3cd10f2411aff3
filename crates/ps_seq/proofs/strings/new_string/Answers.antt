use Rattle.std.proofs.Common.{◌++◌, [], ◌∷◌, arith, subst, sym, ap, ◌∙◌, refl, replicate}
use Rattle.std.proofs.lemmas.List.{length-replicate}
use Rattle.ps_language.specs.declared.kinds.Kind.TheVariants.{Text}
use Rattle.ps_language.specs.Value.{string_object}
use Rattle.ps_mem.specs.Heap.{Heap, birth_of, birth_at, made, zero_word}
use Rattle.ps_mem.specs.Keeps.{Extends}
use Rattle.ps_mem.specs.References.{StandsAs, words_for}
use Rattle.ps_mem.specs.Shows.{IsSound, Shows}
use Rattle.ps_mem.proofs.HeapLemmas.{next-made, object_at-made_same}
use Rattle.ps_mem.proofs.NewShows.{NewObject-made}
use Rattle.ps_mem.proofs.ZeroLemmas.{AreBytes-zeros, words_of-zeros}
use Rattle.ps_seq.proofs.TextNews.{IsSound-new_text, Shows-new_text}
use Rattle.ps_seq.proofs.strings.new_string.Goals as goal

pub returns-clause-known : goal.returns-clause-known
returns-clause-known g c =
    let h = g.M.Memory.heap c.args.memory.now in
    let a = c.alloc-address.result in
    let n = c.words_of_string.result in
    let words = c.words_of_string.ensures in
    subst (λ (k : Heap). StandsAs k Text a (words_for c.args.count))
    (sym c.alloc-address.ensures.heap)
    (record {
      object = _;
      at = object_at-made_same h a Text n;
      kind_is = refl;
      fits = let count =
          length-replicate n zero_word in omega (arith, count, words);
    })

pub returns-clause-sound : goal.returns-clause-sound
returns-clause-sound g c =
    let h = g.M.Memory.heap c.args.memory.now in
    let a = c.alloc-address.result in
    let n = c.words_of_string.result in
    subst IsSound (sym c.alloc-address.ensures.heap)
    (IsSound-new_text h (made h a Text n) a (replicate n zero_word)
    (NewObject-made h a Text n c.alloc-address.ensures.free) c.requires.sound
    (next-made h a Text n))

pub returns-clause-extends : goal.returns-clause-extends
returns-clause-extends g c =
    let h = g.M.Memory.heap c.args.memory.now in
    let a = c.alloc-address.result in
    let new = NewObject-made h a Text (c.words_of_string.result) c.alloc-address.ensures.free in
    subst (Extends h) (sym c.alloc-address.ensures.heap) new.extends

pub returns-clause-birth : goal.returns-clause-birth
unfolding birth_at
returns-clause-birth g c =
    let h = g.M.Memory.heap c.args.memory.now in
    let a = c.alloc-address.result in
    ap (λ (k : Heap). birth_at k a) c.alloc-address.ensures.heap ∙ ap birth_of
    (object_at-made_same h a Text (c.words_of_string.result))

pub returns-clause-shows : goal.returns-clause-shows
returns-clause-shows g c = λ names s shows.
    let h = g.M.Memory.heap c.args.memory.now in
    let a = c.alloc-address.result in
    let n = c.words_of_string.result in
    subst (λ (k : Heap). Shows k names (s ++ string_object (replicate c.args.count 0) ∷ []))
    (sym c.alloc-address.ensures.heap)
    (Shows-new_text h (made h a Text n) a (replicate n zero_word)
    (NewObject-made h a Text n c.alloc-address.ensures.free) c.requires.sound
    (next-made h a Text n) names s (replicate c.args.count 0) shows
    (AreBytes-zeros c.args.count) (ap (λ k. replicate k zero_word) c.words_of_string.ensures ∙ sym
    (words_of-zeros c.args.count)))
