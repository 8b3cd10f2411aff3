use Rattle.std.proofs.Common.{◌≡◌, ◌≤◌, ◌+◌, ◌∙◌, ap, arith, length, vec_capacity}
use Rattle.std.proofs.lemmas.List.{take_all}
use Rattle.ps_mem.specs.Heap.{Heap}
use Rattle.ps_mem.specs.Shows.{words_of_pairs}
use Rattle.ps_dict.specs.Places.{count_at, pairs_at}
use Rattle.ps_dict.specs.Merges.{merged}
use Rattle.ps_dict.proofs.Shapes.{length-pairs}
use Rattle.ps_dict.proofs.Merging.{merged-long}
use Rattle.ps_dict.proofs.merges.merge_words.Given.{Over}
use Rattle.ps_dict.proofs.merges.merge_words.Goals.{In-loop-place}
use Rattle.ps_dict.proofs.merges.merge_words.Goals as goal

-- the list has room for a pair more
room_left : (g : Over) (c : In-loop-place g)
    → length c.loop-place.scratch.items + 2 ≤ vec_capacity c.loop-place.scratch
room_left g c =
    let h = g.M.Memory.heap c.args.memory.now in
    let more = c.length-more.ensures.words
    ∙ ap (λ (k : Heap). count_at k c.args.merge.from) c.length-count.ensures.heap in
    let test = c.loop-place-test.true in
    let long = merged-long h c.requires.sound c.args.merge.to c.args.merge.from c.requires.target
    c.requires.source c.loop-place.place in
    let words = ap length c.loop-place.invariant.words in
    let room = c.loop-place.invariant.room in
    omega (arith, more, test, long, words, room)

pub returns-in_err-merge_pair-clause-unchanged : goal.returns-in_err-merge_pair-clause-unchanged
returns-in_err-merge_pair-clause-unchanged g c =
    let room =
    room_left g (goal.at.returns-in_err-merge_pair-clause-unchanged g c).In-loop-place in
    let full = c.in_err-merge_pair.ensures.full in
    absurd (omega (arith, room, full))

pub returns-in_err-merge_pair-clause-full : goal.returns-in_err-merge_pair-clause-full
returns-in_err-merge_pair-clause-full g c =
    let room = room_left g (goal.at.returns-in_err-merge_pair-clause-full g c).In-loop-place in
    let full = c.in_err-merge_pair.ensures.full in
    absurd (omega (arith, room, full))

pub returns-clause-words : goal.returns-clause-words
returns-clause-words g c =
    let h = g.M.Memory.heap c.args.memory.now in
    let more : c.length-more.result ≡ count_at h c.args.merge.from = c.length-more.ensures.words
    ∙ ap (λ (k : Heap). count_at k c.args.merge.from) c.length-count.ensures.heap in
    let all = length-pairs h c.args.merge.from c.requires.source c.requires.sound in
    c.loop-place.invariant.words
    ∙ ap (λ ps. words_of_pairs (merged (pairs_at h c.args.merge.to) ps))
    (take_all c.loop-place.place (pairs_at h c.args.merge.from) (omega (arith, more, all)))
