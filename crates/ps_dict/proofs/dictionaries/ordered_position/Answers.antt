-- Two pairs a turn, and the last of an odd number.
use Rattle.std.proofs.Common.{None, ◌≡◌, ◌+◌, ◌-◌, ◌*◌, ◌∙◌, ap, sym, refl, subst, arith, take}
use Rattle.ps_mem.specs.Heap.{Heap}
use Rattle.ps_dict.specs.Places.{pairs_at, place_of}
use Rattle.ps_dict.specs.Probes.{same_at}
use Rattle.ps_dict.proofs.Reading.{place-here, place-past, position-none}
use Rattle.ps_dict.proofs.dictionaries.ordered_position.Given.{Over}
use Rattle.ps_dict.proofs.dictionaries.ordered_position.Goals.{Else-has_key, Then-count-eq1}
use Rattle.ps_dict.proofs.dictionaries.ordered_position.Goals as goal

pub loop-turn-init : goal.loop-turn-init
unfolding place_of
loop-turn-init g c = record {
  heap = c.body-body.ensures.heap ∙ c.length-count.ensures.heap;
  grants = c.body-body.ensures.grants ∙ c.length-count.ensures.grants;
  absent = refl;
}

pub returns-then-has_key-clause-words : goal.returns-then-has_key-clause-words
returns-then-has_key-clause-words g c =
    let h = g.M.Memory.heap c.args.memory.now in
    let a = c.args.address in
    let count = c.length-count.ensures.words in
    let more = c.loop-turn-test.true in
    let same = subst (λ (k : Heap). c.has_key.result
    ≡ same_at (pairs_at k a) c.args.key (2 * c.loop-turn.turn)) c.loop-turn.invariant.heap
    c.has_key.ensures.answer in
    sym (place-here h a c.requires.known c.requires.sound (2 * c.loop-turn.turn)
    (omega (arith, count, more)) c.args.key c.loop-turn.invariant.absent
    (sym same ∙ c.if-has_key.true))

-- the first of two hasn't the key
second_left : (g : Over) (c : Else-has_key g)
    → place_of (take (2 * c.loop-turn.turn + 1)
    (pairs_at (g.M.Memory.heap c.args.memory.now) c.args.address)) c.args.key ≡ None
second_left g c =
    let count = c.length-count.ensures.words in
    let more = c.loop-turn-test.true in
    let first = subst (λ (k : Heap). c.has_key.result
    ≡ same_at (pairs_at k c.args.address) c.args.key (2 * c.loop-turn.turn))
    c.loop-turn.invariant.heap c.has_key.ensures.answer in
    place-past (g.M.Memory.heap c.args.memory.now) c.args.address c.requires.known
    c.requires.sound (2 * c.loop-turn.turn) (omega (arith, count, more)) c.args.key
    c.loop-turn.invariant.absent (sym first ∙ c.if-has_key.false)

pub returns-then-has_key-2-clause-words : goal.returns-then-has_key-2-clause-words
returns-then-has_key-2-clause-words g c =
    let count = c.length-count.ensures.words in
    let more = c.loop-turn-test.true in
    let second = subst (λ (k : Heap). c.has_key-in-loop-turn.result
    ≡ same_at (pairs_at k c.args.address) c.args.key (2 * c.loop-turn.turn + 1))
    (c.has_key.ensures.heap ∙ c.loop-turn.invariant.heap) c.has_key-in-loop-turn.ensures.answer in
    sym (place-here (g.M.Memory.heap c.args.memory.now) c.args.address c.requires.known
    c.requires.sound (2 * c.loop-turn.turn + 1) (omega (arith, count, more)) c.args.key
    (second_left g
    (goal.at.returns-then-has_key-2-clause-words g c).Else-has_key)
    (sym second ∙ c.if-has_key-2.true))

pub loop-turn-preserved : goal.loop-turn-preserved
loop-turn-preserved g c =
    let h = g.M.Memory.heap c.args.memory.now in
    let a = c.args.address in
    let count = c.length-count.ensures.words in
    let more = c.loop-turn-test.true in
    let second = subst (λ (k : Heap). c.has_key-in-loop-turn.result
    ≡ same_at (pairs_at k a) c.args.key (2 * c.loop-turn.turn + 1))
    (c.has_key.ensures.heap ∙ c.loop-turn.invariant.heap) c.has_key-in-loop-turn.ensures.answer in
    let next : 2 * c.loop-turn.turn + 1 + 1 ≡ 2 * (c.loop-turn.turn + 1) = omega arith in
    record {
      heap = c.has_key-in-loop-turn.ensures.heap
          ∙ (c.has_key.ensures.heap ∙ c.loop-turn.invariant.heap);
      grants = c.has_key-in-loop-turn.ensures.grants
          ∙ (c.has_key.ensures.grants ∙ c.loop-turn.invariant.grants);
      absent = ap (λ n. place_of (take n (pairs_at h a)) c.args.key) (sym next)
          ∙ place-past h a c.requires.known c.requires.sound (2 * c.loop-turn.turn + 1)
          (omega (arith, count, more)) c.args.key
          (second_left g (goal.at.loop-turn-preserved g c).Else-has_key)
          (sym second ∙ c.if-has_key-2.false);
    }

-- ---- the last of an odd number

last_left : (g : Over) (c : Then-count-eq1 g)
    → place_of (take (c.length-count.result - 1)
    (pairs_at (g.M.Memory.heap c.args.memory.now) c.args.address)) c.args.key ≡ None
last_left g c =
    let past = c.loop-turn-test.false in
    let ends = c.loop-turn.auto.turn-end in
    let odd = c.if-count-eq1.true in
    let last : 2 * c.loop-turn.turn ≡ c.length-count.result - 1 = omega (arith, past, ends, odd) in
    ap (λ n. place_of (take n (pairs_at (g.M.Memory.heap c.args.memory.now) c.args.address))
    c.args.key) (sym last)
    ∙ c.loop-turn.invariant.absent

pub returns-then-has_key-3-clause-words : goal.returns-then-has_key-3-clause-words
returns-then-has_key-3-clause-words g c =
    let count = c.length-count.ensures.words in
    let odd = c.if-count-eq1.true in
    let same = subst (λ (k : Heap). c.has_key-then-count-eq1.result
    ≡ same_at (pairs_at k c.args.address) c.args.key (c.length-count.result - 1))
    c.loop-turn.invariant.heap c.has_key-then-count-eq1.ensures.answer in
    sym (place-here (g.M.Memory.heap c.args.memory.now) c.args.address c.requires.known
    c.requires.sound (c.length-count.result - 1) (omega (arith, count, odd)) c.args.key
    (last_left g
    (goal.at.returns-then-has_key-3-clause-words g c).Then-count-eq1)
    (sym same ∙ c.if-has_key-3.true))

pub returns-else-has_key-3-clause-words : goal.returns-else-has_key-3-clause-words
returns-else-has_key-3-clause-words g c =
    let h = g.M.Memory.heap c.args.memory.now in
    let count = c.length-count.ensures.words in
    let odd = c.if-count-eq1.true in
    let same = subst (λ (k : Heap). c.has_key-then-count-eq1.result
    ≡ same_at (pairs_at k c.args.address) c.args.key (c.length-count.result - 1))
    c.loop-turn.invariant.heap c.has_key-then-count-eq1.ensures.answer in
    sym (position-none h c.args.address c.requires.known c.requires.sound c.args.key
    (c.length-count.result - 1 + 1) (omega (arith, count, odd))
    (place-past h c.args.address c.requires.known c.requires.sound (c.length-count.result - 1)
    (omega (arith, count, odd)) c.args.key
    (last_left g
    (goal.at.returns-else-has_key-3-clause-words g c).Then-count-eq1)
    (sym same ∙ c.if-has_key-3.false)))

pub returns-else-count-eq1-clause-words : goal.returns-else-count-eq1-clause-words
returns-else-count-eq1-clause-words g c =
    let h = g.M.Memory.heap c.args.memory.now in
    let a = c.args.address in
    let count = c.length-count.ensures.words in
    let past = c.loop-turn-test.false in
    let even = c.if-count-eq1.false in
    sym (position-none h a c.requires.known c.requires.sound c.args.key
    (2 * c.loop-turn.turn) (omega (arith, count, past, even)) c.loop-turn.invariant.absent)
