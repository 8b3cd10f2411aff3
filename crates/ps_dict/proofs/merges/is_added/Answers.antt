use Rattle.std.proofs.Common.{◌≡◌, ◌∙◌, Some, None, ap, sym, arith, take}
use Rattle.std.specs.Prelude.{slice_get}
use Rattle.ps_mem.specs.Heap.{Heap}
use Rattle.ps_dict.specs.Places.{pairs_at, place_of}
use Rattle.ps_dict.proofs.Counting.{count-by, count-new, count-there}
use Rattle.ps_dict.proofs.Merging.{place-kept, place-neither, none-anywhere}
use Rattle.ps_dict.proofs.merges.is_added.Given.{Over}
use Rattle.ps_dict.proofs.merges.is_added.Goals.{In-None}
use Rattle.ps_dict.proofs.merges.is_added.Goals as goal

pub returns-in-Some-position-clause-answer : goal.returns-in-Some-position-clause-answer
returns-in-Some-position-clause-answer g c =
    let h = g.M.Memory.heap c.args.memory.now in
    let key = c.in-Some.key in
    let read : slice_get (pairs_at h c.args.merge.from) c.args.place ≡ Some (key, c.in-Some.field-0-1) =
    sym c.pair.ensures.words ∙ c.in-Some.is in
    let there : place_of (pairs_at h c.args.merge.to) key ≡ Some c.in-Some-position.field-0 =
    sym (c.position.ensures.words
    ∙ ap (λ (k : Heap). place_of (pairs_at k c.args.merge.to) key) c.pair.ensures.heap)
    ∙ c.in-Some-position.is in
    let same = count-there (pairs_at h c.args.merge.to) (pairs_at h c.args.merge.from) c.args.place
    (key, c.in-Some.field-0-1) read _ (place-kept key (pairs_at h c.args.merge.to)
    (take c.args.place (pairs_at h c.args.merge.from)) _ there) in
    omega (arith, same)

-- where the target hasn't the key that is read

module _ (g : Over) (c : In-None g) where
  read : slice_get (pairs_at (g.M.Memory.heap c.args.memory.now) c.args.merge.from) c.args.place
      ≡ Some (c.in-Some.key, c.in-Some.field-0-1)
  read = sym c.pair.ensures.words ∙ c.in-Some.is

  to : place_of (pairs_at (g.M.Memory.heap c.args.memory.now) c.args.merge.to) c.in-Some.key ≡ None
  to = sym (c.position.ensures.words
      ∙ ap (λ (k : Heap). place_of (pairs_at k c.args.merge.to) c.in-Some.key)
      c.pair.ensures.heap)
      ∙ c.in-None.is

pub returns-in-Some-position-2-clause-answer : goal.returns-in-Some-position-2-clause-answer
returns-in-Some-position-2-clause-answer g c =
    let h = g.M.Memory.heap c.args.memory.now in
    let key = c.in-Some.key in
    let d = (goal.at.returns-in-Some-position-2-clause-answer g c).In-None in
    let from : place_of (pairs_at h c.args.merge.from) key ≡ Some c.in-Some-position-2.first =
    sym (c.position-in-None.ensures.words
    ∙ (ap (λ (k : Heap). place_of (pairs_at k c.args.merge.from) key) c.position.ensures.heap
    ∙ ap (λ (k : Heap). place_of (pairs_at k c.args.merge.from) key) c.pair.ensures.heap))
    ∙ c.in-Some-position-2.is in
    count-by h c.requires.sound c.args.merge.to c.args.merge.from c.requires.target c.requires.source
    (key, c.in-Some.field-0-1) c.in-Some.ensures.held.0 c.in-Some-position-2.first c.args.place
    (read g d) (to g d) from

pub returns-in-None-position-clause-answer : goal.returns-in-None-position-clause-answer
returns-in-None-position-clause-answer g c =
    let h = g.M.Memory.heap c.args.memory.now in
    let key = c.in-Some.key in
    let d = (goal.at.returns-in-None-position-clause-answer g c).In-None in
    let from : place_of (pairs_at h c.args.merge.from) key ≡ None =
    sym (c.position-in-None.ensures.words
    ∙ (ap (λ (k : Heap). place_of (pairs_at k c.args.merge.from) key) c.position.ensures.heap
    ∙ ap (λ (k : Heap). place_of (pairs_at k c.args.merge.from) key) c.pair.ensures.heap))
    ∙ c.in-None-position.is in
    count-new (pairs_at h c.args.merge.to) (pairs_at h c.args.merge.from) c.args.place
    (key, c.in-Some.field-0-1) (read g d) (place-neither key (pairs_at h c.args.merge.to)
    (take c.args.place (pairs_at h c.args.merge.from)) (to g d)
    (none-anywhere key (pairs_at h c.args.merge.from) c.args.place from))
