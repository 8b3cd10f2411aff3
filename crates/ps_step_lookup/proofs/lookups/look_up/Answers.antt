-- Each dictionary is looked through, the topmost first.
use Rattle.std.proofs.Common.{arith, drop, ap, ◌∙◌, rules}
use Rattle.ps_language.specs.Dictionaries.{look_up}
use Rattle.ps_ops_operands.specs.Changes.{values_in}
use Rattle.ps_mem.specs.Heap.{birth_at}
use Rattle.ps_step_lookup.proofs.Looking.{found_here, missing_here, hidden_here, topmost_left}
use Rattle.ps_step_lookup.proofs.lookups.look_up.Goals as goal

pub returns-in-Err-clause-value : goal.returns-in-Err-clause-value
returns-in-Err-clause-value g c = λ names s k shows distinct sought.
    let births = birth_at (g.M.Memory.heap c.args.memory.now) in
    let looked = c.in-Err.ensures.value in
    let here = rw c.loop-below.invariant.heap at looked in
    c.loop-below.invariant.value names s k shows distinct sought
    ∙ hidden_here births names s k c.args.dictionaries.now _ _
    (topmost_left _ _ (omega (arith, c.loop-below-test.true))
    c.loop-below.invariant.within c.dictionary_above-dictionary.ensures) _ (here names s k shows distinct sought)

pub returns-in-Ok-Some-clause-value : goal.returns-in-Ok-Some-clause-value
returns-in-Ok-Some-clause-value g c = λ names s k shows distinct sought.
    let births = birth_at (g.M.Memory.heap c.args.memory.now) in
    let looked = c.in-Ok-Some.ensures.value in
    let some = rw c.in-Ok-Some.field-0-is at looked in
    let here = rw c.loop-below.invariant.heap at some in
    c.loop-below.invariant.value names s k shows distinct sought
    ∙ found_here births names s k c.args.dictionaries.now _ _
    (topmost_left _ _ (omega (arith, c.loop-below-test.true))
    c.loop-below.invariant.within c.dictionary_above-dictionary.ensures) c.in-Ok-Some.value
    (here names s k shows distinct sought)

pub loop-below-preserved : goal.loop-below-preserved
loop-below-preserved g c =
    let looked = c.in-Ok-None.ensures.value in
    let none = rw c.in-Ok-None.field-0-is at looked in
    let here = rw c.loop-below.invariant.heap at none in
    record {
      within = omega (arith, c.loop-below.invariant.within);
      heap = search rules;
      grants = search rules;
      value = λ names s k shows distinct sought.
          let births = birth_at (g.M.Memory.heap c.args.memory.now) in
          c.loop-below.invariant.value names s k shows distinct sought
          ∙ (missing_here births names s k c.args.dictionaries.now _ _
          (topmost_left _ _ (omega (arith, c.loop-below-test.true))
          c.loop-below.invariant.within c.dictionary_above-dictionary.ensures)
          (here names s k shows distinct sought)
          ∙ ap (λ n. look_up s (drop n (values_in (g.M.Memory.heap c.args.memory.now) names
          c.args.dictionaries.now)) k)
          (omega (arith, c.loop-below-test.true, c.loop-below.invariant.within)));
    }
