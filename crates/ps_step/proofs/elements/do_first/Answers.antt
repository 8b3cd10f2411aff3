-- Element after element, until one is not done.
use Rattle.std.proofs.Common.{◌≡◌, ℕ, ◌+◌, ◌-◌, ◌<◌, ◌≤◌, List, arith, refl, sym, ◌∙◌, subst}
use Rattle.ps_word.specs.declared.words.Word.{Word}
use Rattle.ps_ops_state.specs.Lent.{Lent}
use Rattle.ps_step_frames.specs.Steps.{frames_after}
use Rattle.ps_step.specs.Elements.{DoesTo}
use Rattle.ps_step.proofs.Ahead.{does_into, does_more, does_none, read_at}
use Rattle.ps_step.proofs.elements.do_first.Goals as goal

pub element_at-word-requires-clause-sound : goal.element_at-word-requires-clause-sound
element_at-word-requires-clause-sound g c =
    rw c.loop-at.invariant.heap c.requires.good.2.sound

-- what is done so far leaves what is good
pub do_quickly-requires-clause-good : goal.do_quickly-requires-clause-good
do_quickly-requires-clause-good g c =
    let l : Lent = c.requires.good.0 in
    let below = c.requires.good.1 in
    let start : ℕ = c.args.rest.address + c.args.rest.offset in
    let made = c.loop-at.invariant.does l below c.requires.good.2 in
    rw (c.element_at-word.ensures.heap ∙ c.loop-at.invariant.heap)
    (record l { frames = frames_after (c.loop-at.at - start) c.args.rest below }, made.good)

pub loop-at-init : goal.loop-at-init
loop-at-init g c =
    let start : ℕ = c.args.rest.address + c.args.rest.offset in
    let none : 0 ≡ start - start = omega arith in
    record {
      heap = refl;
      grants = refl;
      does = subst (λ (done : ℕ). DoesTo (g.M.Memory.heap c.args.memory.now)
          c.args.dictionaries.now c.args.rest done c.args.operands.now
          c.args.operands.now) none (does_none _ _ _ _);
    }

pub loop-at-preserved : goal.loop-at-preserved
loop-at-preserved g c =
    let heap = g.M.Memory.heap c.args.memory.now in
    let same = c.element_at-word.ensures.heap ∙ c.loop-at.invariant.heap in
    let start : ℕ = c.args.rest.address + c.args.rest.offset in
    let done : ℕ = c.loop-at.at - start in
    let from : start ≤ c.loop-at.at = c.loop-at.auto.at in
    let some : done < c.args.rest.length =
    omega (arith, from, c.loop-at-test.true, c.requires.most) in
    let more : done + 1 ≡ (c.loop-at.at + 1) - start = omega (arith, from) in
    record {
      heap = c.do_quickly.ensures.heap ∙ same;
      grants = c.do_quickly.ensures.grants
          ∙ (c.element_at-word.ensures.grants ∙ c.loop-at.invariant.grants);
      does = subst (λ (done : ℕ). DoesTo heap c.args.dictionaries.now c.args.rest done
          c.args.operands.now c.do_quickly.new.operands) more
          (does_more heap c.args.dictionaries.now c.args.rest
          c.args.operands.now g.O.Operate.asks done _ _
          c.element_at-word.result some
          (rw c.loop-at.invariant.heap at c.element_at-word.ensures.held)
          (rw c.loop-at.invariant.heap at c.element_at-word.ensures.within)
          (read_at heap c.args.rest c.element_at-word.result c.loop-at.at (omega (arith, from))
          (rw c.loop-at.invariant.heap at c.element_at-word.ensures.value))
          c.loop-at.invariant.does
          (rw (same, c.in-Done.is) at c.do_quickly.ensures.comes));
    }

pub returns-in-Enters-clause-does : goal.returns-in-Enters-clause-does
returns-in-Enters-clause-does g c =
    let heap = g.M.Memory.heap c.args.memory.now in
    let same = c.element_at-word.ensures.heap ∙ c.loop-at.invariant.heap in
    let start : ℕ = c.args.rest.address + c.args.rest.offset in
    let done : ℕ = c.loop-at.at - start in
    let from : start ≤ c.loop-at.at = c.loop-at.auto.at in
    let some : done < c.args.rest.length =
    omega (arith, from, c.loop-at-test.true, c.requires.most) in
    rw c.index_of-done.ensures (does_into heap c.args.dictionaries.now c.args.rest
    c.args.operands.now g.O.Operate.asks done _ _ c.element_at-word.result some
    (rw c.loop-at.invariant.heap at c.element_at-word.ensures.held)
    (rw c.loop-at.invariant.heap at c.element_at-word.ensures.within)
    (read_at heap c.args.rest c.element_at-word.result c.loop-at.at (omega (arith, from))
    (rw c.loop-at.invariant.heap at c.element_at-word.ensures.value)) c.in-Enters.body
    c.loop-at.invariant.does (rw (same, c.in-Enters.is) at c.do_quickly.ensures.comes))

pub returns-in-Treats-clause-does : goal.returns-in-Treats-clause-does
returns-in-Treats-clause-does g c =
    let heap = g.M.Memory.heap c.args.memory.now in
    let same = c.element_at-word.ensures.heap ∙ c.loop-at.invariant.heap in
    let start : ℕ = c.args.rest.address + c.args.rest.offset in
    let from : start ≤ c.loop-at.at = c.loop-at.auto.at in
    let came = rw (same, c.in-Treats.is) at c.do_quickly.ensures.comes in
    rw c.index_of-done-in-Treats.ensures (
      subst (λ (now : List Word). DoesTo heap c.args.dictionaries.now c.args.rest
          (c.loop-at.at - start) c.args.operands.now now)
          (sym came.0) c.loop-at.invariant.does,
      record {
        held = rw c.loop-at.invariant.heap at c.element_at-word.ensures.held;
        reads = read_at heap c.args.rest c.element_at-word.result c.loop-at.at
            (omega (arith, from))
            (rw c.loop-at.invariant.heap at c.element_at-word.ensures.value);
        within = rw c.loop-at.invariant.heap at c.element_at-word.ensures.within;
        value_held = came.1.0;
        treats = came.1.1;
      },
    )

pub returns-in-Slow-clause-does : goal.returns-in-Slow-clause-does
returns-in-Slow-clause-does g c =
    let same = c.element_at-word.ensures.heap ∙ c.loop-at.invariant.heap in
    let start : ℕ = c.args.rest.address + c.args.rest.offset in
    rw c.index_of-done-in-Slow.ensures
    (subst (λ (now : List Word). DoesTo (g.M.Memory.heap c.args.memory.now)
    c.args.dictionaries.now c.args.rest (c.loop-at.at - start) c.args.operands.now now)
    (sym (rw (same, c.in-Slow.is) at c.do_quickly.ensures.comes)) c.loop-at.invariant.does)

pub returns-clause-does : goal.returns-clause-does
returns-clause-does g c =
    let start : ℕ = c.args.rest.address + c.args.rest.offset in
    let all : c.loop-at.at - start ≡ c.args.most =
    omega (arith, c.loop-at-test.false, c.loop-at.auto.at-end) in
    subst (λ (done : ℕ). DoesTo (g.M.Memory.heap c.args.memory.now) c.args.dictionaries.now
    c.args.rest done c.args.operands.now c.loop-at.operands) all
    c.loop-at.invariant.does
