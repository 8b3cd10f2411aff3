-- What the word of the place tells: the position of a pair, or none.
use Rattle.std.proofs.Common.{ℕ, true≢false, ◌≢◌, ◌+◌, ◌*◌, ◌%◌, ◌^◌, ◌≡◌, ◌<◌, ◌∙◌, ap, sym, arith, subst, Some}
use Rattle.std.specs.Prelude.{slice_get}
use Rattle.std.proofs.lemmas.Bool.Decides.{Decides-eqb}
use Rattle.ps_mem.specs.Heap.{Heap, fields_at}
use Rattle.ps_mem.specs.Shows.{IsValue}
use Rattle.ps_dict.specs.Places.{body_at, capacity_at, count_at}
use Rattle.ps_dict.specs.Probes.{going_round, start_at}
use Rattle.ps_dict.proofs.Reading.{key-value}
use Rattle.ps_dict.proofs.Shapes.{count-fits}
use Rattle.ps_dict.proofs.Probing.{few-places, look-fits, key-fits, looked-at, key-at, look-free, look-found, look-on, null-zero, position-within}
use Rattle.ps_dict.proofs.dictionaries.look_at.Given.{Over}
use Rattle.ps_dict.proofs.dictionaries.look_at.Goals.{After-low_natural-position, After-load-word}
use Rattle.ps_dict.proofs.dictionaries.look_at.Goals as goal

pub overflow_mul-capacity : goal.overflow_mul-capacity
overflow_mul-capacity g c =
    let few = few-places (g.M.Memory.heap c.args.memory.now) c.args.address c.requires.known
    c.requires.sound in
    let capacity = c.requires.capacity in
    omega (arith, few, capacity)

pub overflow_add-capacity : goal.overflow_add-capacity
overflow_add-capacity g c =
    let few = few-places (g.M.Memory.heap c.args.memory.now) c.args.address c.requires.known
    c.requires.sound in
    let capacity = c.requires.capacity in
    let place = c.requires.place in
    omega (arith, few, capacity, place)

pub load-placed-requires : goal.load-placed-requires
load-placed-requires g c = record {
  place = look-fits (g.M.Memory.heap c.body-body.new.memory) (g.M.Memory.heap c.args.memory.now)
      c.args.address c.body-body.result c.args.capacity c.requires.known c.requires.sound
      c.body-body.ensures.heap c.body-body.ensures.words c.requires.capacity c.args.place
      c.requires.place;
}

pub returns-then-eq-clause-tells : goal.returns-then-eq-clause-tells
returns-then-eq-clause-tells g c = λ behind within_places at ahead.
    let h = g.M.Memory.heap c.args.memory.now in
    let capacity : c.args.capacity ≡ capacity_at h c.args.address = c.requires.capacity in
    look-free h c.args.address c.requires.known c.requires.sound c.args.place
    (subst (λ n. c.args.place < n) capacity c.requires.place) c.load-placed.result
    (looked-at (g.M.Memory.heap c.body-body.new.memory) h c.args.address c.body-body.result
    c.args.capacity c.requires.known c.requires.sound c.body-body.ensures.heap
    c.body-body.ensures.words capacity c.args.place c.load-placed.result
    c.load-placed.ensures.answer)
    ((Decides-eqb c.load-placed.result.0 c.null.result.0).0 (sym c.eq.ensures ∙ c.if-eq.true)
    ∙ null-zero c.null.result c.null.ensures.word c.null.ensures.value) c.args.key behind
    (subst (λ n. behind < n) capacity within_places)
    (at ∙ ap (going_round (start_at h c.args.address c.args.key) behind) capacity) ahead

-- ---- the position that it has, where it isn't zero, and the key there

module _ (g : Over) (c : After-low_natural-position g) where
  abbrev h : Heap
  h = g.M.Memory.heap c.args.memory.now

  abbrev a : ℕ
  a = c.args.address

  abbrev q : ℕ
  q = c.load-placed.result.0 % 2 ^ 32

  below : c.args.place < capacity_at h a
  below = subst (λ n. c.args.place < n) c.requires.capacity c.requires.place

  read : slice_get (fields_at h (body_at h a)) (2 * capacity_at h a + c.args.place)
      ≡ Some c.load-placed.result
  read = looked-at (g.M.Memory.heap c.body-body.new.memory) h a c.body-body.result c.args.capacity
      c.requires.known c.requires.sound c.body-body.ensures.heap c.body-body.ensures.words
      c.requires.capacity c.args.place c.load-placed.result c.load-placed.ensures.answer

  some : c.load-placed.result.0 ≢ 0
  some none = true≢false (sym ((Decides-eqb c.load-placed.result.0 c.null.result.0).1
      (none ∙ sym (null-zero c.null.result c.null.ensures.word c.null.ensures.value)))
      ∙ (sym c.eq.ensures ∙ c.if-eq.false))

  position : c.low_natural-position.result ≡ q
  position = c.low_natural-position.ensures

  within : q < count_at h a
  within = position-within h a c.requires.known c.requires.sound c.args.place below
      c.load-placed.result read some

  position_within : c.low_natural-position.result < count_at h a
  position_within = subst (λ n. n < count_at h a) (sym position) within

pub overflow_mul-position : goal.overflow_mul-position
overflow_mul-position g c =
    let d = (goal.at.overflow_mul-position g c).After-low_natural-position in
    let few = few-places (h g d) c.args.address c.requires.known c.requires.sound in
    let fits = count-fits (h g d) c.args.address c.requires.known c.requires.sound in
    omega (arith, few, fits, position_within g d, c.requires.capacity)

pub load-word-requires : goal.load-word-requires
load-word-requires g c =
    let d = (goal.at.load-word-requires g c).After-low_natural-position in
    record {
      place = key-fits (g.M.Memory.heap c.load-placed.new.self) (h g d) c.args.address
          c.body-body.result c.args.capacity c.requires.known c.requires.sound
          (c.load-placed.ensures.heap ∙ c.body-body.ensures.heap) c.body-body.ensures.words
          c.requires.capacity c.low_natural-position.result (position_within g d);
    }

module _ (g : Over) (c : After-load-word g) where
  abbrev seen : After-low_natural-position g
  seen = (goal.at.After-load-word g c).After-low_natural-position

  word : slice_get (fields_at (h g seen) (body_at (h g seen) c.args.address)) (2 * q g seen)
      ≡ Some c.load-word.result
  word = key-at (g.M.Memory.heap c.load-placed.new.self) (h g seen) c.args.address
      c.body-body.result c.args.capacity c.requires.known c.requires.sound
      (c.load-placed.ensures.heap ∙ c.body-body.ensures.heap) c.body-body.ensures.words
      c.requires.capacity c.low_natural-position.result (q g seen) c.load-word.result
      (position g seen) c.load-word.ensures.answer

  key : IsValue (h g seen) c.load-word.result
  key = key-value (h g seen) c.args.address c.requires.known c.requires.sound (q g seen)
      (within g seen) c.load-word.result word

pub are_alike-requires-clause-left : goal.are_alike-requires-clause-left
are_alike-requires-clause-left g c = (key g c).word

pub are_alike-requires-clause-visible : goal.are_alike-requires-clause-visible
are_alike-requires-clause-visible g c = (key g c).visible

pub returns-then-are_alike-clause-within : goal.returns-then-are_alike-clause-within
returns-then-are_alike-clause-within g c =
    position_within g (goal.at.returns-then-are_alike-clause-within g c).After-low_natural-position

pub returns-then-are_alike-clause-tells : goal.returns-then-are_alike-clause-tells
returns-then-are_alike-clause-tells g c = λ behind within_places at ahead.
    let d = (goal.at.returns-then-are_alike-clause-tells g c).After-load-word in
    let e = seen g d in
    look-found (h g e) c.args.address c.requires.known c.requires.sound c.args.place (below g e)
    c.load-placed.result (read g e) (some g e) c.load-word.result (word g d) c.args.key behind
    (subst (λ n. behind < n) c.requires.capacity within_places)
    (at ∙ ap (going_round (start_at (h g e) c.args.address c.args.key) behind) c.requires.capacity)
    ahead (sym c.are_alike.ensures ∙ c.if-are_alike.true)
    ∙ ap Some (sym (position g e))

pub returns-else-are_alike-clause-tells : goal.returns-else-are_alike-clause-tells
returns-else-are_alike-clause-tells g c = λ behind within_places at ahead.
    let d = (goal.at.returns-else-are_alike-clause-tells g c).After-load-word in
    let e = seen g d in
    look-on (h g e) c.args.address c.requires.known c.requires.sound c.args.place (below g e)
    c.load-placed.result (read g e) (some g e) c.load-word.result (word g d) c.args.key behind
    (subst (λ n. behind < n) c.requires.capacity within_places)
    (at ∙ ap (going_round (start_at (h g e) c.args.address c.args.key) behind) c.requires.capacity)
    ahead (sym c.are_alike.ensures ∙ c.if-are_alike.false)
