use Rattle.std.proofs.Common.{rules, ℕ, List, Option, ◌≡◌, ◌+◌, ◌*◌, ◌%◌, ◌++◌, ◌<◌, ◌∙◌, Some, replicate, ap, sym, arith, subst, length}
use Rattle.std.specs.Prelude.{slice_get, slice_set}
use Rattle.ps_mem.specs.Heap.{Heap, birth_at, fields_at, zero_word}
use Rattle.ps_mem.specs.Index.{hash_of, placed}
use Rattle.ps_mem.specs.Shows.{IsValue}
use Rattle.ps_dict.specs.Places.{count_at, capacity_at, body_at}
use Rattle.ps_dict.proofs.Shapes.{count-fits}
use Rattle.ps_dict.proofs.Reading.{key-place}
use Rattle.ps_dict.proofs.Probing.{few-places}
use Rattle.ps_dict.proofs.Gathering.{gathered-none, gathered-all, gathered-words, gathered-count, gathered-long, gathered-small, gathered-free, gathered-key, gathered-next, from, from-within, spots}
use Rattle.ps_dict.proofs.removals.gather_index.Given.{Over}
use Rattle.ps_dict.proofs.removals.gather_index.Goals.{After-place_beside-from, After-load-key}
use Rattle.ps_dict.proofs.removals.gather_index.Goals as goal

pub loop-position-init : goal.loop-position-init
loop-position-init g c =
    let h = g.M.Memory.heap c.args.memory.now in
    let a = c.args.address in
    record {
      heap = search rules;
      grants = search rules;
      items = c.in_ok-push_nulls.ensures.nulls
          ∙ (ap (λ ws. ws ++ replicate c.capacity-capacity.result zero_word) c.requires.empty
          ∙ (ap (λ n. replicate n zero_word) c.capacity-capacity.ensures.words
          ∙ gathered-none h a c.requires.known c.requires.sound c.args.gone c.requires.place));
      room = search rules;
    }

pub place_beside-from-requires : goal.place_beside-from-requires
place_beside-from-requires g c =
    let h = g.M.Memory.heap c.args.memory.now in
    let a = c.args.address in
    let test = c.loop-position-test.true in
    let is_count = c.length-count.ensures.words
    ∙ ap (λ (k : Heap). count_at k a) c.capacity-capacity.ensures.heap in
    let fits = count-fits h a c.requires.known c.requires.sound in
    let few = few-places h a c.requires.known c.requires.sound in
    record { few = omega (arith, test, is_count, fits, few) }

-- ---- the pair that comes next

module _ (g : Over) (c : After-place_beside-from g) where
  abbrev h : Heap
  h = g.M.Memory.heap c.args.memory.now

  abbrev a : ℕ
  a = c.args.address

  abbrev p : ℕ
  p = c.loop-position.position

  is_capacity : c.capacity-capacity.result ≡ capacity_at h a
  is_capacity = c.capacity-capacity.ensures.words

  is_count : c.length-count.result ≡ count_at h a
  is_count = c.length-count.ensures.words
      ∙ ap (λ (k : Heap). count_at k a) c.capacity-capacity.ensures.heap

  is_body : c.body-body.result ≡ body_at h a
  is_body = c.body-body.ensures.words ∙ ap (λ (k : Heap). body_at k a)
      (c.length-count.ensures.heap ∙ c.capacity-capacity.ensures.heap)

  more : p + 1 < count_at h a
  more = let test = c.loop-position-test.true in omega (arith, test, is_count)

  abbrev next : ℕ
  next = from h a c.requires.known c.requires.sound c.args.gone c.requires.place p more

  abbrev places : List (Option ℕ)
  places = spots h a c.requires.known c.requires.sound c.args.gone c.requires.place p more

pub load-key-requires : goal.load-key-requires
load-key-requires g c =
    let d = (goal.at.load-key-requires g c).After-place_beside-from in
    let place = key-place (h g d) (a g d) c.requires.known c.requires.sound (next g d)
    (from-within (h g d) (a g d) c.requires.known c.requires.sound c.args.gone c.requires.place
    (p g d) (more g d)) in
    record {
      place = subst (λ (k : Heap). 2 * c.place_beside-from.result < length
          (fields_at k c.body-body.result)) (sym c.loop-position.invariant.heap)
          (subst (λ b. 2 * c.place_beside-from.result < length (fields_at (h g d) b))
          (sym (is_body g d))
          (subst (λ q. 2 * q < length (fields_at (h g d) (body_at (h g d) (a g d))))
          (sym c.place_beside-from.ensures) place));
    }

-- ---- its key

module _ (g : Over) (c : After-load-key g) where
  abbrev at : After-place_beside-from g
  at = (goal.at.After-load-key g c).After-place_beside-from

  same : g.M.Memory.heap c.load-key.new.self ≡ h g at
  same = c.load-key.ensures.heap ∙ c.loop-position.invariant.heap

  read : slice_get (fields_at (h g at) (body_at (h g at) (a g at))) (2 * next g at)
      ≡ Some c.load-key.result
  read = ap (λ q. slice_get (fields_at (h g at) (body_at (h g at) (a g at))) (2 * q))
      (sym c.place_beside-from.ensures)
      ∙ (ap (λ b. slice_get (fields_at (h g at) b) (2 * c.place_beside-from.result))
      (sym (is_body g at))
      ∙ (ap (λ (k : Heap). slice_get (fields_at k c.body-body.result)
      (2 * c.place_beside-from.result)) (sym c.loop-position.invariant.heap)
      ∙ c.load-key.ensures.answer))

pub first_place-start-requires-clause-held : goal.first_place-start-requires-clause-held
first_place-start-requires-clause-held g c =
    let e = (goal.at.first_place-start-requires-clause-held g c).After-load-key in
    let d = at g e in
    subst (λ (k : Heap). IsValue k c.load-key.result) (sym (same g e))
    (gathered-key (h g d) (a g d) c.requires.known c.requires.sound c.args.gone c.requires.place
    (p g d) (more g d) c.load-key.result (read g e))

pub first_place-start-requires-clause-some : goal.first_place-start-requires-clause-some
first_place-start-requires-clause-some g c =
    let d = (goal.at.first_place-start-requires-clause-some g c).After-place_beside-from in
    let fits = count-fits (h g d) (a g d) c.requires.known c.requires.sound in
    omega (arith, more g d, fits, is_capacity g d)

pub free_in-place-requires-clause-few : goal.free_in-place-requires-clause-few
free_in-place-requires-clause-few g c =
    let few = few-places (g.M.Memory.heap c.args.memory.now) c.args.address c.requires.known
    c.requires.sound in
    omega (arith, few, c.capacity-capacity.ensures.words)

pub free_in-place-requires-clause-all : goal.free_in-place-requires-clause-all
free_in-place-requires-clause-all g c =
    let d = (goal.at.free_in-place-requires-clause-all g c).After-place_beside-from in
    ap length (c.as_slice.ensures.value ∙ c.loop-position.invariant.items)
    ∙ (gathered-long (h g d) (a g d) c.requires.known c.requires.sound c.args.gone
    c.requires.place (p g d) (more g d)
    ∙ sym (is_capacity g d))

-- ---- where it goes

pub loop-position-preserved : goal.loop-position-preserved
loop-position-preserved g c =
    let e = (goal.at.loop-position-preserved g c).After-load-key in
    let d = at g e in
    let start : c.first_place-start.result
    ≡ hash_of (birth_at (h g d)) c.load-key.result % capacity_at (h g d) (a g d) =
    c.first_place-start.ensures.answer
    ∙ (ap (λ (k : Heap). hash_of (birth_at k) c.load-key.result % c.capacity-capacity.result)
    (same g e) ∙ ap (λ n. hash_of (birth_at (h g d)) c.load-key.result % n) (is_capacity g d)) in
    let placed_there : placed (p g d)
    (hash_of (birth_at (h g d)) c.load-key.result % capacity_at (h g d) (a g d)) (places g d)
    ≡ slice_set (places g d) c.free_in-place.result (Some (p g d)) =
    subst (λ s. placed (p g d) s (places g d)
    ≡ slice_set (places g d) c.free_in-place.result (Some (p g d))) start
    (c.free_in-place.ensures.placed (places g d)
    (c.as_slice.ensures.value
    ∙ (c.loop-position.invariant.items
    ∙ gathered-words (h g d) (a g d) c.requires.known c.requires.sound c.args.gone
    c.requires.place (p g d) (more g d)))
    (gathered-count (h g d) (a g d) c.requires.known c.requires.sound c.args.gone
    c.requires.place (p g d) (more g d) ∙ sym (is_capacity g d))
    (gathered-small (h g d) (a g d) c.requires.known c.requires.sound c.args.gone
    c.requires.place (p g d) (more g d))
    (gathered-free (h g d) (a g d) c.requires.known c.requires.sound c.args.gone
    c.requires.place (p g d) (more g d)) (p g d)) in
    record {
      heap = search rules;
      grants = search rules;
      items = ap (λ ws. slice_set ws c.free_in-place.result c.natural_word.result)
          c.loop-position.invariant.items
          ∙ gathered-next (h g d) (a g d) c.requires.known c.requires.sound c.args.gone
          c.requires.place (p g d) (more g d) c.load-key.result (read g e)
          c.free_in-place.result c.natural_word.result c.natural_word.ensures.value
          (c.natural_word.ensures.held (h g d)) placed_there;
      room = search rules;
    }

pub returns-clause-index : goal.returns-clause-index
returns-clause-index g c =
    let h = g.M.Memory.heap c.args.memory.now in
    let is_count = c.length-count.ensures.words
    ∙ ap (λ (k : Heap). count_at k c.args.address) c.capacity-capacity.ensures.heap in
    let ends = c.loop-position.auto.position-end in
    c.loop-position.invariant.items
    ∙ gathered-all h c.args.address c.requires.known c.requires.sound c.args.gone
    c.requires.place c.loop-position.position (omega (arith, is_count))
