use Rattle.std.proofs.Common.{◌≡◌, ◌∙◌, ap, sym, arith, length, take}
use Rattle.std.proofs.lemmas.List.{take_all}
use Rattle.ps_mem.specs.Heap.{Heap}
use Rattle.ps_dict.specs.Merges.{merged}
use Rattle.ps_dict.specs.Places.{count_at, pairs_at}
use Rattle.ps_dict.proofs.Pairs.{length-words_of_pairs}
use Rattle.ps_dict.proofs.Merging.{merged-few}
use Rattle.ps_dict.proofs.Shapes.{length-pairs}
use Rattle.ps_dict.proofs.merges.merged_count.Goals as goal

pub loop-place-init : goal.loop-place-init
loop-place-init g c =
    let h = g.M.Memory.heap c.args.memory.now in
    let count : c.length-count.result ≡ count_at h c.args.merge.to = c.length-count.ensures.words
    ∙ ap (λ (k : Heap). count_at k c.args.merge.to) c.length-pairs.ensures.heap in
    record {
      heap = c.length-count.ensures.heap ∙ c.length-pairs.ensures.heap;
      grants = c.length-count.ensures.grants ∙ c.length-pairs.ensures.grants;
      count = count ∙ sym (length-pairs h c.args.merge.to c.requires.target c.requires.sound);
    }

pub overflow_add-count : goal.overflow_add-count
overflow_add-count g c =
    let h = g.M.Memory.heap c.args.memory.now in
    let few = merged-few h c.requires.sound c.args.merge.to c.args.merge.from c.requires.target
    c.requires.source c.loop-place.place in
    let is = c.loop-place.invariant.count in
    let long = length-words_of_pairs (merged (pairs_at h c.args.merge.to)
    (take c.loop-place.place (pairs_at h c.args.merge.from))) in
    omega (arith, few, is, long)

pub returns-clause-count : goal.returns-clause-count
returns-clause-count g c =
    let h = g.M.Memory.heap c.args.memory.now in
    let more : c.length-pairs.result ≡ count_at h c.args.merge.from = c.length-pairs.ensures.words in
    let all = length-pairs h c.args.merge.from c.requires.source c.requires.sound in
    c.loop-place.invariant.count
    ∙ ap (λ ps. length (merged (pairs_at h c.args.merge.to) ps))
    (take_all c.loop-place.place (pairs_at h c.args.merge.from) (omega (arith, more, all)))
