use Rattle.std.proofs.Common.{◌≡◌, ◌<◌, ◌^◌, ◌∙◌, List, Some, None, ap, sym, subst, length, take}
use Rattle.std.specs.List.{AllByRecursion}
use Rattle.ps_word.specs.declared.words.Word.{Word}
use Rattle.ps_mem.specs.Heap.{Heap}
use Rattle.ps_mem.specs.Index.{pairs_of_words}
use Rattle.ps_dict.specs.Keys.{IsKey}
use Rattle.ps_dict.specs.Places.{pairs_at, place_of}
use Rattle.ps_dict.specs.Merges.{merged}
use Rattle.ps_dict.proofs.Errors.{words-back}
use Rattle.ps_dict.proofs.Merging.{place-kept, place-neither, none-earlier, none-anywhere, merged-keys, merged-few}
use Rattle.ps_dict.proofs.merges.merged_place.Goals as goal

pub place_among-requires-clause-few : goal.place_among-requires-clause-few
place_among-requires-clause-few g c =
    let h = g.M.Memory.heap c.args.memory.now in
    subst (λ (ws : List Word). length ws < 2 ^ 31) (sym c.requires.words)
    (merged-few h c.requires.sound c.args.merge.to c.args.merge.from c.requires.target c.requires.source
    c.args.place)

pub place_among-requires-clause-words : goal.place_among-requires-clause-words
place_among-requires-clause-words g c =
    let h = g.M.Memory.heap c.args.memory.now in
    subst (AllByRecursion IsKey) (sym c.requires.words)
    (merged-keys h c.requires.sound c.args.merge.to c.args.merge.from c.requires.target c.requires.source
    c.args.place)

pub returns-then-first-place-clause-answer : goal.returns-then-first-place-clause-answer
returns-then-first-place-clause-answer g c =
    let h = g.M.Memory.heap c.args.memory.now in
    let so_far = merged (pairs_at h c.args.merge.to) (take c.args.place (pairs_at h c.args.merge.from)) in
    c.place_among.ensures
    ∙ ap (λ ps. place_of ps c.args.key) (ap pairs_of_words c.requires.words ∙ words-back so_far)

pub returns-else-first-place-clause-answer : goal.returns-else-first-place-clause-answer
returns-else-first-place-clause-answer g c =
    let h = g.M.Memory.heap c.args.memory.now in
    let to : place_of (pairs_at h c.args.merge.to) c.args.key ≡ None =
    sym c.position.ensures.words ∙ c.in-None.is in
    let from : place_of (pairs_at h c.args.merge.from) c.args.key ≡ Some c.in-Some-position.first =
    sym (c.position-in-None.ensures.words
    ∙ ap (λ (k : Heap). place_of (pairs_at k c.args.merge.from) c.args.key) c.position.ensures.heap)
    ∙ c.in-Some-position.is in
    sym (place-neither c.args.key (pairs_at h c.args.merge.to)
    (take c.args.place (pairs_at h c.args.merge.from)) to
    (none-earlier c.args.key (pairs_at h c.args.merge.from) c.args.place c.in-Some-position.first from
    c.if-first-place.false))

pub returns-in-None-position-clause-answer : goal.returns-in-None-position-clause-answer
returns-in-None-position-clause-answer g c =
    let h = g.M.Memory.heap c.args.memory.now in
    let to : place_of (pairs_at h c.args.merge.to) c.args.key ≡ None =
    sym c.position.ensures.words ∙ c.in-None.is in
    let from : place_of (pairs_at h c.args.merge.from) c.args.key ≡ None =
    sym (c.position-in-None.ensures.words
    ∙ ap (λ (k : Heap). place_of (pairs_at k c.args.merge.from) c.args.key) c.position.ensures.heap)
    ∙ c.in-None-position.is in
    sym (place-neither c.args.key (pairs_at h c.args.merge.to)
    (take c.args.place (pairs_at h c.args.merge.from)) to
    (none-anywhere c.args.key (pairs_at h c.args.merge.from) c.args.place from))

pub returns-in-Some-clause-answer : goal.returns-in-Some-clause-answer
returns-in-Some-clause-answer g c =
    let h = g.M.Memory.heap c.args.memory.now in
    sym (place-kept c.args.key (pairs_at h c.args.merge.to) (take c.args.place (pairs_at h c.args.merge.from))
    c.in-Some.there (sym c.position.ensures.words ∙ c.in-Some.is))
