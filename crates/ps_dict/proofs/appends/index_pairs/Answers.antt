use Rattle.std.proofs.Common.{ℕ, ◌≡◌, ◌*◌, ◌++◌, ◌+◌, ◌<◌, ◌≤◌, ◌∙◌, ◌/◌, [], ◌∷◌, ap, arith, subst, length}
use Rattle.std.proofs.lemmas.List.{take_all}
use Rattle.ps_mem.specs.Heap.{Heap, birth_at, fields_at, stored}
use Rattle.ps_mem.specs.Index.{pairs_of_words, index_words}
use Rattle.ps_dict.specs.Places.{capacity_at, body_at, pairs_at}
use Rattle.ps_dict.specs.Puts.{AfterChange}
use Rattle.ps_dict.proofs.Fresh.{length-in_twos}
use Rattle.ps_dict.proofs.Granted.{none-used, store-used, then-used}
use Rattle.ps_dict.proofs.Several.{positions-none, few-now, long-now, key-now, next-now}
use Rattle.ps_dict.proofs.appends.index_pairs.Given.{Over}
use Rattle.ps_dict.proofs.appends.index_pairs.Goals.{In-loop-position}
use Rattle.ps_dict.proofs.appends.index_pairs.Goals as goal

pub loop-position-init : goal.loop-position-init
loop-position-init g c =
    let h = g.M.Memory.heap c.args.memory.now in
    let same : g.M.Memory.heap c.capacity-capacity.new.memory ≡ h =
    c.capacity-capacity.ensures.heap ∙ (c.body-body.ensures.heap ∙ c.length-count.ensures.heap) in (
      same ∙ positions-none h c.args.address c.requires.known c.requires.sound c.args.words.now
          c.requires.room c.requires.held,
      none-used _ _ c.args.slot (c.capacity-capacity.ensures.grants
          ∙ (c.body-body.ensures.grants ∙ c.length-count.ensures.grants)),
    )

-- ---- in a turn of the loop

module _ (g : Over) (c : In-loop-position g) where
  abbrev h : Heap
  h = g.M.Memory.heap c.args.memory.now

  abbrev a : ℕ
  a = c.args.address

  below : c.loop-position.position < length c.args.words.now / 2
  below = omega arith

  is_body : c.body-body.result ≡ body_at h a
  is_body = c.body-body.ensures.words ∙ ap (λ (k : Heap). body_at k a) c.length-count.ensures.heap

  is_capacity : c.capacity-capacity.result ≡ capacity_at h a
  is_capacity = c.capacity-capacity.ensures.words
      ∙ ap (λ (k : Heap). capacity_at k a) (c.body-body.ensures.heap ∙ c.length-count.ensures.heap)

  few : c.capacity-capacity.result ≤ 21845
  few = few-now h a c.requires.known c.requires.sound c.args.words.now c.requires.room
      c.requires.held c.loop-position.position below (g.M.Memory.heap c.loop-position.memory)
      c.body-body.result c.capacity-capacity.result c.loop-position.invariant.0 is_body is_capacity

  long : length (fields_at (g.M.Memory.heap c.loop-position.memory) c.body-body.result)
      ≡ 3 * c.capacity-capacity.result
  long = long-now h a c.requires.known c.requires.sound c.args.words.now c.requires.room
      c.requires.held c.loop-position.position below (g.M.Memory.heap c.loop-position.memory)
      c.body-body.result c.capacity-capacity.result c.loop-position.invariant.0 is_body is_capacity

pub free_place-place-requires-clause-few : goal.free_place-place-requires-clause-few
free_place-place-requires-clause-few g c =
    few g (goal.at.free_place-place-requires-clause-few g c).In-loop-position

pub free_place-place-requires-clause-held : goal.free_place-place-requires-clause-held
free_place-place-requires-clause-held g c =
    let d = (goal.at.free_place-place-requires-clause-held g c).In-loop-position in
    key-now (h g d) (a g d) c.requires.known c.requires.sound c.args.words.now c.requires.room
    c.requires.held c.loop-position.position (below g d) (g.M.Memory.heap c.loop-position.memory)
    c.body-body.result c.capacity-capacity.result c.loop-position.invariant.0 (is_body g d)
    (is_capacity g d)

pub free_place-place-requires-clause-room : goal.free_place-place-requires-clause-room
free_place-place-requires-clause-room g c =
    let all = long g (goal.at.free_place-place-requires-clause-room g c).In-loop-position in
    omega (arith, all)

pub overflow_add-capacity : goal.overflow_add-capacity
overflow_add-capacity g c =
    let most = few g (goal.at.overflow_add-capacity g c).In-loop-position in
    let within = c.free_place-place.ensures.below in
    omega (arith, most, within)

pub store-requires-clause-place : goal.store-requires-clause-place
store-requires-clause-place g c =
    let all = ap (λ (k : Heap). length (fields_at k c.body-body.result))
    c.free_place-place.ensures.heap
    ∙ long g (goal.at.store-requires-clause-place g c).In-loop-position in
    let within = c.free_place-place.ensures.below in
    omega (arith, all, within)

pub loop-position-preserved : goal.loop-position-preserved
loop-position-preserved g c =
    let d = (goal.at.loop-position-preserved g c).In-loop-position in
    let w = c.natural_word-word.result in
    let p = c.free_place-place.result in (
      c.store.ensures.heap
          ∙ (ap (λ (k : Heap). stored k c.body-body.result (2 * c.capacity-capacity.result + p)
          (w ∷ [])) c.free_place-place.ensures.heap
          ∙ next-now (h g d) (a g d) c.requires.known c.requires.sound c.args.words.now
          c.requires.room c.requires.held c.loop-position.position (below g d)
          (g.M.Memory.heap c.loop-position.memory) c.body-body.result c.capacity-capacity.result
          c.loop-position.invariant.0 (is_body g d) (is_capacity g d) p
          c.free_place-place.ensures.below c.free_place-place.ensures.placed
          c.length-count.result c.length-count.ensures.words w
          c.natural_word-word.ensures.value (c.natural_word-word.ensures.held (h g d))),
      then-used _ _ _ c.args.slot c.loop-position.position 1 0 0 c.loop-position.invariant.1
          (subst (λ x. AfterChange x (g.M.Memory.grants c.store.new.self) c.args.slot 1 0)
          c.free_place-place.ensures.grants (store-used _ _ c.args.slot c.store.ensures.grants)),
    )

pub returns-clause-heap : goal.returns-clause-heap
returns-clause-heap g c =
    let h = g.M.Memory.heap c.args.memory.now in
    let a = c.args.address in
    let twos = length-in_twos c.args.words.now in
    c.loop-position.invariant.0
    ∙ ap (λ ps. stored h (body_at h a) (2 * capacity_at h a)
    (index_words (birth_at h) (capacity_at h a) (pairs_at h a ++ ps)))
    (take_all c.loop-position.position (pairs_of_words c.args.words.now)
    (omega (arith, twos)))
