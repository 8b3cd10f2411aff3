use Rattle.std.proofs.Common.{◌+◌, ◌∙◌, [], ◌∷◌, ap, sym, refl, arith, get_or}
use Rattle.std.proofs.lemmas.List.{take_all}
use Rattle.ps_mem.specs.Heap.{stored, zero_word}
use Rattle.ps_mem.proofs.HeapLemmas.{stored-nil}
use Rattle.ps_dict.proofs.Filling.{word-place, word-known, word-next}
use Rattle.ps_dict.proofs.fills.fill_words.Goals as goal

pub loop-word-init : goal.loop-word-init
loop-word-init g c = (refl, sym (stored-nil (g.M.Memory.heap c.args.memory.now) c.args.address 0), refl)

pub fill-requires-clause-known : goal.fill-requires-clause-known
fill-requires-clause-known g c =
    word-known (g.M.Memory.heap c.args.memory.now) c.args.address c.args.words.now c.requires.target
    (g.M.Memory.heap c.loop-word.memory) c.loop-word.word-index c.loop-word.invariant.1 c.loop-word-test.true
    c.requires.known zero_word

pub fill-requires-clause-place : goal.fill-requires-clause-place
fill-requires-clause-place g c =
    let p = word-place (g.M.Memory.heap c.args.memory.now) c.args.address c.args.words.now c.requires.target
    (g.M.Memory.heap c.loop-word.memory) c.loop-word.word-index c.loop-word.invariant.1 c.loop-word-test.true in
    let at = c.loop-word.invariant.0 in
    omega (arith, p, at)

pub loop-word-preserved : goal.loop-word-preserved
loop-word-preserved g c =
    let at = c.loop-word.invariant.0 in (
      ap (λ k. k + 1) at,
      c.fill.ensures.heap
          ∙ (ap (λ k. stored (g.M.Memory.heap c.loop-word.memory) c.args.address k
          (get_or c.args.words.now c.loop-word.word-index zero_word ∷ [])) at
          ∙ word-next (g.M.Memory.heap c.args.memory.now) c.args.address c.args.words.now c.requires.target
          (g.M.Memory.heap c.loop-word.memory) c.loop-word.word-index c.loop-word.invariant.1 c.loop-word-test.true
          zero_word),
      c.fill.ensures.grants ∙ c.loop-word.invariant.2,
    )

pub returns-clause-heap : goal.returns-clause-heap
returns-clause-heap g c = c.loop-word.invariant.1
    ∙ ap (stored (g.M.Memory.heap c.args.memory.now) c.args.address 0)
    (take_all c.loop-word.word-index c.args.words.now c.loop-word-test.false)
