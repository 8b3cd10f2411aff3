use Rattle.std.proofs.Common.{◌≡◌, ◌+◌, ◌*◌, ◌++◌, ◌∙◌, [], ◌∷◌, Some, None, ap, sym, arith, length, take}
use Rattle.std.specs.Prelude.{slice_get, slice_set}
use Rattle.ps_mem.specs.Heap.{Heap}
use Rattle.ps_mem.specs.Shows.{words_of_pairs}
use Rattle.ps_dict.specs.Places.{pairs_at, place_of}
use Rattle.ps_dict.specs.Merges.{merged}
use Rattle.ps_dict.proofs.Pairs.{place_below, length-words_of_pairs}
use Rattle.ps_dict.proofs.Pairs.{words-append}
use Rattle.ps_dict.proofs.Merging.{merged-next, put-at, set-value}
use Rattle.ps_dict.proofs.merges.merge_pair.Goals as goal

pub index_mut-requires : goal.index_mut-requires
index_mut-requires g c =
    let h = g.M.Memory.heap c.args.memory.now in
    let so_far = merged (pairs_at h c.args.merge.to) (take c.args.place (pairs_at h c.args.merge.from)) in
    let at : place_of so_far c.in-Some.key ≡ Some c.in-Some-merged_place.there =
    sym (c.merged_place.ensures.answer
    ∙ ap (λ (k : Heap). place_of (merged (pairs_at k c.args.merge.to)
    (take c.args.place (pairs_at k c.args.merge.from))) c.in-Some.key) c.pair.ensures.heap)
    ∙ c.in-Some-merged_place.is in
    let below = place_below c.in-Some.key so_far c.in-Some-merged_place.there at in
    let long = length-words_of_pairs so_far in
    let words = ap length c.requires.words in
    omega (arith, below, long, words)

pub returns-in-Some-merged_place-clause-words : goal.returns-in-Some-merged_place-clause-words
returns-in-Some-merged_place-clause-words g c =
    let h = g.M.Memory.heap c.args.memory.now in
    let so_far = merged (pairs_at h c.args.merge.to) (take c.args.place (pairs_at h c.args.merge.from)) in
    let key = c.in-Some.key in
    let value = c.in-Some.value in
    let there = c.in-Some-merged_place.there in
    let at : place_of so_far key ≡ Some there =
    sym (c.merged_place.ensures.answer
    ∙ ap (λ (k : Heap). place_of (merged (pairs_at k c.args.merge.to)
    (take c.args.place (pairs_at k c.args.merge.from))) key) c.pair.ensures.heap)
    ∙ c.in-Some-merged_place.is in
    let read : slice_get (pairs_at h c.args.merge.from) c.args.place ≡ Some (key, value) =
    sym c.pair.ensures.words ∙ c.in-Some.is in
    ap (λ ws. slice_set ws (2 * there + 1) value) c.requires.words
    ∙ (set-value so_far there value
    ∙ ap words_of_pairs (sym (merged-next (pairs_at h c.args.merge.to) (pairs_at h c.args.merge.from)
    c.args.place (key, value) read ∙ put-at so_far (key, value) (Some there) at)))

pub returns-in_ok-extend_from_slice-in-None-clause-words
    : goal.returns-in_ok-extend_from_slice-in-None-clause-words
returns-in_ok-extend_from_slice-in-None-clause-words g c =
    let h = g.M.Memory.heap c.args.memory.now in
    let so_far = merged (pairs_at h c.args.merge.to) (take c.args.place (pairs_at h c.args.merge.from)) in
    let key = c.in-Some.key in
    let value = c.in-Some.value in
    let at : place_of so_far key ≡ None =
    sym (c.merged_place.ensures.answer
    ∙ ap (λ (k : Heap). place_of (merged (pairs_at k c.args.merge.to)
    (take c.args.place (pairs_at k c.args.merge.from))) key) c.pair.ensures.heap)
    ∙ c.in-None.is in
    let read : slice_get (pairs_at h c.args.merge.from) c.args.place ≡ Some (key, value) =
    sym c.pair.ensures.words ∙ c.in-Some.is in
    c.in_ok-extend_from_slice-in-None.ensures.items
    ∙ (ap (λ ws. ws ++ key ∷ value ∷ []) c.requires.words
    ∙ (sym (words-append so_far ((key, value) ∷ []))
    ∙ ap words_of_pairs (sym (merged-next (pairs_at h c.args.merge.to) (pairs_at h c.args.merge.from)
    c.args.place (key, value) read ∙ put-at so_far (key, value) None at))))
