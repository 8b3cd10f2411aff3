use Rattle.std.proofs.Common.{◌<◌, [], ◌∷◌, length, get_or, refl, sym, ap, ◌∙◌, arith}
use Rattle.ps_mem.specs.Heap.{Space, stored, fields_at, zero_word}
use Rattle.ps_mem.specs.Objects.{heap_in}
use Rattle.ps_mem.proofs.HeapLemmas.{stored-nil, place_of_next, stored_next}
use Rattle.ps_mem.proofs.RegionLemmas.{field_place}
use Rattle.ps_mem.proofs.region.Region.write.Goals as goal

pub loop-word-init : goal.loop-word-init
loop-word-init c =
    let r = c.args.self.now in (
      omega arith,
      (λ space. sym (stored-nil (heap_in r.words r.used r.next space) c.args.address c.args.place)),
      (refl, refl, refl),
    )

pub put-requires : goal.put-requires
put-requires c = λ space.
    let r = c.args.self.now in
    let s = c.loop-word.self in
    let at = c.loop-word.invariant.0 in
    let next = place_of_next (heap_in r.words r.used r.next space)
    (heap_in s.words s.used s.next space) c.args.address c.args.place c.loop-word.word-index c.args.items.now
    (c.loop-word.invariant.1 space) c.loop-word-test.true (c.requires space) in
    omega (arith, at, next)

pub overflow_add-at : goal.overflow_add-at
overflow_add-at c =
    let r = c.args.self.now in
    let s = c.loop-word.self in
    let at = c.loop-word.invariant.0 in
    let below : (space : Space)
    → c.loop-word.at < length (fields_at (heap_in s.words s.used s.next space) c.args.address) = λ space.
    (let next = place_of_next (heap_in r.words r.used r.next space)
    (heap_in s.words s.used s.next space) c.args.address c.args.place c.loop-word.word-index c.args.items.now
    (c.loop-word.invariant.1 space) c.loop-word-test.true (c.requires space) in omega (arith, at, next)) in
    let inside = field_place s.words s.used s.next s.within s.whole c.args.address c.loop-word.at below in
    let within = s.within in
    let limited = s.limited in
    record { fits = omega (arith, inside, within, limited) }

pub loop-word-preserved : goal.loop-word-preserved
loop-word-preserved c =
    let r = c.args.self.now in
    let s = c.loop-word.self in
    let at = c.loop-word.invariant.0 in
    let counts = c.loop-word.invariant.2 in
    let word = get_or c.args.items.now c.loop-word.word-index zero_word in (
      omega (arith, at),
      (λ space.
          c.put.ensures.heap space
          ∙ (ap (λ k. stored (heap_in s.words s.used s.next space) c.args.address k (word ∷ [])) at
          ∙ stored_next (heap_in r.words r.used r.next space)
          (heap_in s.words s.used s.next space) c.args.address c.args.place c.loop-word.word-index c.args.items.now
          (c.loop-word.invariant.1 space) c.loop-word-test.true (c.requires space) zero_word)),
      (c.put.ensures.counts.0 ∙ counts.0, c.put.ensures.counts.1 ∙ counts.1, c.put.ensures.counts.2 ∙ counts.2),
    )
