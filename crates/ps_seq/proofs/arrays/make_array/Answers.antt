use Rattle.std.proofs.Common.{◌+◌, [], ◌∷◌, get_or, take, arith, sym, ap, ◌∙◌, refl}
use Rattle.ps_language.specs.declared.kinds.Kind.TheVariants.{Array}
use Rattle.ps_mem.specs.Heap.{Heap, stored, zero_word}
use Rattle.ps_mem.proofs.HeapLemmas.{stored-nil}
use Rattle.ps_mem.proofs.NewShows.{IsSound-new_array, Shows-new_array}
use Rattle.ps_seq.proofs.MadeLemmas.{filled_place, filled_known, filled_next, new_object_filled, next_filled, stands_filled, birth_filled}
use Rattle.ps_seq.proofs.arrays.make_array.Goals as goal

pub loop-word-init : goal.loop-word-init
loop-word-init g c = (
  refl,
  sym (stored-nil (g.M.Memory.heap c.alloc-address.new.self)
      c.alloc-address.result 0),
  refl,
)

pub fill-requires-clause-known : goal.fill-requires-clause-known
fill-requires-clause-known g c =
    let h = g.M.Memory.heap c.args.memory.now in
    let a = c.alloc-address.result in
    let now = g.M.Memory.heap c.loop-word.memory in
    let i = c.loop-word.word-index in
    let filled = c.loop-word.invariant.1 ∙ ap (λ (k : Heap). stored k a 0
    (take c.loop-word.word-index c.args.words.now)) c.alloc-address.ensures.heap in
    filled_known h a c.alloc-address.ensures.free Array c.args.words.now now i filled
    c.loop-word-test.true c.requires.held zero_word

pub fill-requires-clause-place : goal.fill-requires-clause-place
fill-requires-clause-place g c =
    let h = g.M.Memory.heap c.args.memory.now in
    let a = c.alloc-address.result in
    let now = g.M.Memory.heap c.loop-word.memory in
    let i = c.loop-word.word-index in
    let filled = c.loop-word.invariant.1 ∙ ap (λ (k : Heap). stored k a 0
    (take c.loop-word.word-index c.args.words.now)) c.alloc-address.ensures.heap in
    let at = c.loop-word.invariant.0 in
    let below = filled_place h a c.alloc-address.ensures.free Array c.args.words.now now i filled
    c.loop-word-test.true in
    omega (arith, at, below)

pub loop-word-preserved : goal.loop-word-preserved
loop-word-preserved g c =
    let h = g.M.Memory.heap c.args.memory.now in
    let a = c.alloc-address.result in
    let now = g.M.Memory.heap c.loop-word.memory in
    let i = c.loop-word.word-index in
    let filled = c.loop-word.invariant.1 ∙ ap (λ (k : Heap). stored k a 0
    (take c.loop-word.word-index c.args.words.now)) c.alloc-address.ensures.heap in
    let at = c.loop-word.invariant.0 in (
      ap (λ k. k + 1) at,
      c.fill.ensures.heap
          ∙ (ap (λ k. stored now a k (get_or c.args.words.now i zero_word ∷ [])) at
          ∙ (filled_next h a c.alloc-address.ensures.free Array c.args.words.now now i filled
          c.loop-word-test.true zero_word
          ∙ ap (λ (k : Heap). stored k a 0 (take (i + 1) c.args.words.now))
          (sym c.alloc-address.ensures.heap))),
      c.fill.ensures.grants ∙ c.loop-word.invariant.2,
    )

pub returns-clause-known : goal.returns-clause-known
returns-clause-known g c =
    let h = g.M.Memory.heap c.args.memory.now in
    let a = c.alloc-address.result in
    let filled = c.loop-word.invariant.1 ∙ ap (λ (k : Heap). stored k a 0
    (take c.loop-word.word-index c.args.words.now)) c.alloc-address.ensures.heap in
    stands_filled h a c.alloc-address.ensures.free Array c.args.words.now
    (g.M.Memory.heap c.loop-word.memory) c.loop-word.word-index filled c.loop-word-test.false

pub returns-clause-sound : goal.returns-clause-sound
returns-clause-sound g c =
    let h = g.M.Memory.heap c.args.memory.now in
    let a = c.alloc-address.result in
    let now = g.M.Memory.heap c.loop-word.memory in
    let i = c.loop-word.word-index in
    let filled = c.loop-word.invariant.1 ∙ ap (λ (k : Heap). stored k a 0
    (take c.loop-word.word-index c.args.words.now)) c.alloc-address.ensures.heap in
    IsSound-new_array h now a c.args.words.now (new_object_filled h a c.alloc-address.ensures.free
    Array c.args.words.now now i filled c.loop-word-test.false) c.requires.sound
    (next_filled h a c.alloc-address.ensures.free Array c.args.words.now now i filled
    c.loop-word-test.false) c.requires.held

pub returns-clause-extends : goal.returns-clause-extends
returns-clause-extends g c =
    let h = g.M.Memory.heap c.args.memory.now in
    let a = c.alloc-address.result in
    let filled = c.loop-word.invariant.1 ∙ ap (λ (k : Heap). stored k a 0
    (take c.loop-word.word-index c.args.words.now)) c.alloc-address.ensures.heap in
    let new = new_object_filled h a c.alloc-address.ensures.free Array c.args.words.now
    (g.M.Memory.heap c.loop-word.memory) c.loop-word.word-index filled c.loop-word-test.false in
    new.extends

pub returns-clause-birth : goal.returns-clause-birth
returns-clause-birth g c =
    let h = g.M.Memory.heap c.args.memory.now in
    let a = c.alloc-address.result in
    let filled = c.loop-word.invariant.1 ∙ ap (λ (k : Heap). stored k a 0
    (take c.loop-word.word-index c.args.words.now)) c.alloc-address.ensures.heap in
    birth_filled h a c.alloc-address.ensures.free Array c.args.words.now
    (g.M.Memory.heap c.loop-word.memory) c.loop-word.word-index filled c.loop-word-test.false

pub returns-clause-shows : goal.returns-clause-shows
returns-clause-shows g c = λ names s shows within.
    let h = g.M.Memory.heap c.args.memory.now in
    let a = c.alloc-address.result in
    let now = g.M.Memory.heap c.loop-word.memory in
    let i = c.loop-word.word-index in
    let filled = c.loop-word.invariant.1 ∙ ap (λ (k : Heap). stored k a 0
    (take c.loop-word.word-index c.args.words.now)) c.alloc-address.ensures.heap in
    Shows-new_array h now a c.args.words.now (new_object_filled h a c.alloc-address.ensures.free
    Array c.args.words.now now i filled c.loop-word-test.false) c.requires.sound
    (next_filled h a c.alloc-address.ensures.free Array c.args.words.now now i filled
    c.loop-word-test.false) c.requires.held names s shows within
