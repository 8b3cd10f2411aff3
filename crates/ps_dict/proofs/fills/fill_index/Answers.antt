use Rattle.std.proofs.Common.{◌≡◌, ◌+◌, ◌*◌, ◌<◌, ◌≤◌, ◌∙◌, [], ◌∷◌, Some, refl, ap, sym, arith, subst, length, take, IsTrue}
use Rattle.std.specs.Prelude.{slice_get}
use Rattle.ps_mem.specs.Heap.{Heap, Grants, birth_at, fields_at, stored}
use Rattle.ps_mem.specs.Index.{index_words, pairs_of_words}
use Rattle.ps_mem.specs.Shows.{IsValue}
use Rattle.ps_dict.proofs.Indexing.{indexed, indexed-none, indexed-long, indexed-next, key-held}
use Rattle.ps_dict.proofs.fills.fill_index.Goals as goal

pub loop-position-init : goal.loop-position-init
loop-position-init g c = let h = g.M.Memory.heap c.args.memory.now in (
  sym (indexed-none h c.args.body c.args.capacity c.requires.stands c.requires.fields
      c.requires.values c.requires.free),
  refl,
)

pub load-key-requires : goal.load-key-requires
load-key-requires g c =
    let h = g.M.Memory.heap c.args.memory.now in
    let p = c.loop-position.position in
    let room = c.requires.room in
    let below : p < c.args.capacity = omega (arith, room) in
    let long = indexed-long h c.args.body c.args.capacity c.requires.stands c.requires.fields
    c.requires.values c.requires.free p below in
    record {
      place = subst (λ (k : Heap). 2 * p < length (fields_at k c.args.body))
          (sym c.loop-position.invariant.0) (omega (arith, long, below));
    }

pub free_place-place-requires-clause-held : goal.free_place-place-requires-clause-held
free_place-place-requires-clause-held g c =
    let h = g.M.Memory.heap c.args.memory.now in
    let p = c.loop-position.position in
    let room = c.requires.room in
    let below : p < c.args.capacity = omega (arith, room) in
    let now : g.M.Memory.heap c.load-key.new.self ≡ indexed h c.args.body c.args.capacity
    c.requires.stands c.requires.fields c.requires.values c.requires.free p =
    c.load-key.ensures.heap ∙ c.loop-position.invariant.0 in
    let read : slice_get (fields_at
    (indexed h c.args.body c.args.capacity c.requires.stands c.requires.fields c.requires.values
    c.requires.free p) c.args.body) (2 * p) ≡ Some c.load-key.result =
    subst (λ (k : Heap). slice_get (fields_at k c.args.body) (2 * p) ≡ Some c.load-key.result)
    c.loop-position.invariant.0 c.load-key.ensures.answer in
    subst (λ (k : Heap). IsValue k c.load-key.result) (sym now)
    (key-held h c.args.body c.args.capacity c.requires.stands c.requires.fields
    c.requires.values c.requires.free p below c.load-key.result read)

pub free_place-place-requires-clause-room : goal.free_place-place-requires-clause-room
free_place-place-requires-clause-room g c =
    let h = g.M.Memory.heap c.args.memory.now in
    let p = c.loop-position.position in
    let room = c.requires.room in
    let below : p < c.args.capacity = omega (arith, room) in
    let now : g.M.Memory.heap c.load-key.new.self ≡ indexed h c.args.body c.args.capacity
    c.requires.stands c.requires.fields c.requires.values c.requires.free p =
    c.load-key.ensures.heap ∙ c.loop-position.invariant.0 in
    let long = indexed-long h c.args.body c.args.capacity c.requires.stands c.requires.fields
    c.requires.values c.requires.free p below in
    subst (λ (k : Heap). 3 * c.args.capacity ≤ length (fields_at k c.args.body)) (sym now)
    (omega (arith, long))

pub fill-requires-clause-fresh : goal.fill-requires-clause-fresh
fill-requires-clause-fresh g c =
    let same : g.M.Memory.grants c.free_place-place.new.memory ≡ g.M.Memory.grants c.args.memory.now
    = c.free_place-place.ensures.grants
    ∙ (c.load-key.ensures.grants ∙ c.loop-position.invariant.1) in
    subst (λ (x : Grants). IsTrue (x.fresh c.args.body)) (sym same) c.requires.fresh

pub fill-requires-clause-place : goal.fill-requires-clause-place
fill-requires-clause-place g c =
    let h = g.M.Memory.heap c.args.memory.now in
    let p = c.loop-position.position in
    let room = c.requires.room in
    let below : p < c.args.capacity = omega (arith, room) in
    let now : g.M.Memory.heap c.free_place-place.new.memory ≡ indexed h c.args.body c.args.capacity
    c.requires.stands c.requires.fields c.requires.values c.requires.free p =
    c.free_place-place.ensures.heap ∙ (c.load-key.ensures.heap ∙ c.loop-position.invariant.0) in
    let long = indexed-long h c.args.body c.args.capacity c.requires.stands c.requires.fields
    c.requires.values c.requires.free p below in
    let within = c.free_place-place.ensures.below in
    subst (λ (k : Heap). 2 * c.args.capacity + c.free_place-place.result < length
    (fields_at k c.args.body)) (sym now) (omega (arith, long, within))

pub loop-position-preserved : goal.loop-position-preserved
loop-position-preserved g c =
    let h = g.M.Memory.heap c.args.memory.now in
    let p = c.loop-position.position in
    let room = c.requires.room in
    let below : p < c.args.capacity = omega (arith, room) in
    let loaded : g.M.Memory.heap c.load-key.new.self ≡ indexed h c.args.body c.args.capacity
    c.requires.stands c.requires.fields c.requires.values c.requires.free p =
    c.load-key.ensures.heap ∙ c.loop-position.invariant.0 in
    let now : g.M.Memory.heap c.free_place-place.new.memory ≡ indexed h c.args.body c.args.capacity
    c.requires.stands c.requires.fields c.requires.values c.requires.free p =
    c.free_place-place.ensures.heap ∙ loaded in
    let read : slice_get (fields_at
    (indexed h c.args.body c.args.capacity c.requires.stands c.requires.fields c.requires.values
    c.requires.free p) c.args.body) (2 * p) ≡ Some c.load-key.result =
    subst (λ (k : Heap). slice_get (fields_at k c.args.body) (2 * p) ≡ Some c.load-key.result)
    c.loop-position.invariant.0 c.load-key.ensures.answer in (
      c.fill.ensures.heap
          ∙ (ap (λ (k : Heap). stored k c.args.body
          (2 * c.args.capacity + c.free_place-place.result) (c.natural_word-word.result ∷ []))
          now
          ∙ indexed-next h c.args.body c.args.capacity c.requires.stands c.requires.fields
          c.requires.values c.requires.free p below c.load-key.result read c.requires.few
          (g.M.Memory.heap c.load-key.new.self) loaded c.free_place-place.result
          c.free_place-place.ensures.below c.free_place-place.ensures.placed
          c.natural_word-word.result c.natural_word-word.ensures.value
          (c.natural_word-word.ensures.held h)),
      c.fill.ensures.grants ∙ (c.free_place-place.ensures.grants
          ∙ (c.load-key.ensures.grants ∙ c.loop-position.invariant.1)),
    )

pub returns-clause-heap : goal.returns-clause-heap
returns-clause-heap g c = c.loop-position.invariant.0
    ∙ ap (λ n. stored (g.M.Memory.heap c.args.memory.now) c.args.body (2 * c.args.capacity)
    (index_words (birth_at (g.M.Memory.heap c.args.memory.now)) c.args.capacity
    (take n (pairs_of_words (fields_at (g.M.Memory.heap c.args.memory.now) c.args.body)))))
    (omega arith)

pub returns-clause-grants : goal.returns-clause-grants
returns-clause-grants g c = c.loop-position.invariant.1
