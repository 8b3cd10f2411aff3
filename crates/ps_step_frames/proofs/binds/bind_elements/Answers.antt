-- One element after another.
use Rattle.std.proofs.Common.{[], ◌∷◌, length, arith, sym, ap, ◌∙◌}
use Rattle.std.proofs.lemmas.List.{length-append}
use Rattle.ps_step_frames.proofs.Listing.{bound_end, bound_closed, bound_on, bound_entered}
use Rattle.ps_step_frames.specs.Binds.{word_left}
use Rattle.ps_step_frames.proofs.binds.bind_elements.Goals as goal

pub returns-in_default-clause-binds : goal.returns-in_default-clause-binds
returns-in_default-clause-binds g c =
    let below = c.loop-place-test.true in
    let count = c.loop-place.invariant.count in
    bound_closed _ c.args.dictionaries.now c.args.over c.args.at c.loop-place.place
    c.loop-place.changed c.loop-place.words.items c.loop-place.invariant.bound
    (omega (arith, below)) c.element-word.result
    (rw c.loop-place.invariant.heap at c.element-word.ensures.held)
    (rw c.loop-place.invariant.heap at c.element-word.ensures.within)
    (rw c.loop-place.invariant.heap at c.element-word.ensures.value)
    (omega (arith, below, count))
    (rw (c.element-word.ensures.heap, c.loop-place.invariant.heap, c.in_default.is) at
    c.bind_element.ensures.binds)

pub returns-in-Some-inner_of-clause-binds : goal.returns-in-Some-inner_of-clause-binds
returns-in-Some-inner_of-clause-binds g c =
    let below = c.loop-place-test.true in
    let count = c.loop-place.invariant.count in
    let more = length-append c.loop-place.words.items
    (word_left c.element-word.result c.in-Some.bound ∷ []) in
    rw (c.push_reserved.ensures.items, c.word_left.ensures, c.changed_by-changed.ensures)
    (bound_entered _ c.args.dictionaries.now c.args.over c.args.at c.loop-place.place
    c.loop-place.changed c.loop-place.words.items c.loop-place.invariant.bound
    (omega (arith, below)) c.element-word.result
    (rw c.loop-place.invariant.heap at c.element-word.ensures.held)
    (rw c.loop-place.invariant.heap at c.element-word.ensures.within)
    (rw c.loop-place.invariant.heap at c.element-word.ensures.value)
    c.in-Some.bound c.in-Some-inner_of.inner
    (sym c.in-Some-inner_of.is ∙ c.inner_of.ensures)
    (rw (c.element-word.ensures.heap, c.loop-place.invariant.heap, c.in-Some.is) at
    c.bind_element.ensures.binds)
    (omega (arith, below, count, more)))

pub loop-place-preserved : goal.loop-place-preserved
loop-place-preserved g c =
    let below = c.loop-place-test.true in
    let count = c.loop-place.invariant.count in
    let from = c.loop-place.invariant.from in
    let more = length-append c.loop-place.words.items (c.word_left.result ∷ []) in
    let pushed = ap length c.push_reserved.ensures.items in
    record {
      heap = c.bind_element.ensures.heap
          ∙ (c.element-word.ensures.heap ∙ c.loop-place.invariant.heap);
      grants = c.bind_element.ensures.grants
          ∙ (c.element-word.ensures.grants ∙ c.loop-place.invariant.grants);
      from = omega (arith, from);
      upto = omega (arith, below);
      count = omega (arith, count, more, pushed);
      capacity = c.push_reserved.ensures.capacity ∙ c.loop-place.invariant.capacity;
      bound = rw (
        c.push_reserved.ensures.items,
        c.word_left.ensures,
        c.changed_by-changed.ensures,
      ) (bound_on _ c.args.dictionaries.now c.args.over c.args.at c.loop-place.place
          c.loop-place.changed c.loop-place.words.items c.loop-place.invariant.bound
          (omega (arith, below)) c.element-word.result
          (rw c.loop-place.invariant.heap at c.element-word.ensures.held)
          (rw c.loop-place.invariant.heap at c.element-word.ensures.within)
          (rw c.loop-place.invariant.heap at c.element-word.ensures.value)
          c.in-Some.bound (sym c.in_default-inner_of.is ∙ c.inner_of.ensures)
          (rw (c.element-word.ensures.heap, c.loop-place.invariant.heap, c.in-Some.is) at
          c.bind_element.ensures.binds));
    }

pub returns-clause-binds : goal.returns-clause-binds
returns-clause-binds g c =
    let past = c.loop-place-test.false in
    let upto = c.loop-place.invariant.upto in
    let count = c.loop-place.invariant.count in
    bound_end _ c.args.dictionaries.now c.args.over c.args.at c.loop-place.place
    c.loop-place.changed c.loop-place.words.items (omega (arith, past, upto))
    (omega (arith, count, upto)) c.loop-place.invariant.bound
