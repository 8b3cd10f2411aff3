-- Each dictionary above the two lowest is looked through, the topmost first; then what is known of
-- these two is asked.
use Rattle.std.proofs.Common.{◌≡◌, ◌+◌, ◌-◌, ℕ, Some, arith, drop, length, refl, ap, subst, ◌∙◌, rules, slice_get}
use Rattle.ps_language.specs.Dictionaries.{look_up}
use Rattle.ps_ops_operands.specs.Changes.{values_in}
use Rattle.ps_mem.specs.Heap.{birth_at}
use Rattle.ps_mem.specs.Meaning.{value_of}
use Rattle.ps_step_lookup.proofs.Looking.{found_here, missing_here, hidden_here, topmost_left}
use Rattle.ps_step_lookup.proofs.Knowing.{known_by, none_by, lowest_two, known-held, known-within, known-value}
use Rattle.ps_step_lookup.proofs.lookups.look_up_name.Goals as goal

pub returns-in-Err-clause-value : goal.returns-in-Err-clause-value
returns-in-Err-clause-value g c = λ names s shows distinct within.
    let births = birth_at (g.M.Memory.heap c.args.memory.now) in
    let k = value_of births names c.args.word in
    let looked = c.in-Err.ensures.value in
    let here = rw c.loop-below.invariant.heap at looked in
    none_by births names s k (values_in (g.M.Memory.heap c.args.memory.now) names c.args.dictionaries.now) _
    (c.loop-below.invariant.value names s shows distinct within
    ∙ hidden_here births names s k c.args.dictionaries.now _ _
    (topmost_left _ _ (omega (arith, c.loop-below-test.true))
    c.loop-below.invariant.within c.dictionary_above-dictionary.ensures) _
    (here names s k shows distinct (refl, within)))

pub returns-in-Ok-Some-clause-value : goal.returns-in-Ok-Some-clause-value
returns-in-Ok-Some-clause-value g c = λ names s shows distinct within.
    let births = birth_at (g.M.Memory.heap c.args.memory.now) in
    let k = value_of births names c.args.word in
    let looked = c.in-Ok-Some.ensures.value in
    let some = rw c.in-Ok-Some.field-0-is at looked in
    let here = rw c.loop-below.invariant.heap at some in
    known_by births names s k (values_in (g.M.Memory.heap c.args.memory.now) names c.args.dictionaries.now) _ _
    (c.loop-below.invariant.value names s shows distinct within
    ∙ found_here births names s k c.args.dictionaries.now _ _
    (topmost_left _ _ (omega (arith, c.loop-below-test.true))
    c.loop-below.invariant.within c.dictionary_above-dictionary.ensures) c.in-Ok-Some.value
    (here names s k shows distinct (refl, within)))

pub loop-below-preserved : goal.loop-below-preserved
loop-below-preserved g c =
    let looked = c.in-Ok-None.ensures.value in
    let none = rw c.in-Ok-None.field-0-is at looked in
    let here = rw c.loop-below.invariant.heap at none in
    record {
      within = omega (arith, c.loop-below.invariant.within);
      heap = search rules;
      grants = search rules;
      value = λ names s shows distinct within.
          let births = birth_at (g.M.Memory.heap c.args.memory.now) in
          let k = value_of births names c.args.word in
          c.loop-below.invariant.value names s shows distinct within
          ∙ (missing_here births names s k c.args.dictionaries.now _ _
          (topmost_left _ _ (omega (arith, c.loop-below-test.true))
          c.loop-below.invariant.within c.dictionary_above-dictionary.ensures)
          (here names s k shows distinct (refl, within))
          ∙ ap (λ n. look_up s (drop n (values_in (g.M.Memory.heap c.args.memory.now) names
          c.args.dictionaries.now)) k)
          (omega (arith, c.loop-below-test.true, c.loop-below.invariant.within)));
    }

pub returns-in-Some-clause-held : goal.returns-in-Some-clause-held
returns-in-Some-clause-held g c =
    let h = g.M.Memory.heap c.args.memory.now in
    let ws = c.args.dictionaries.now in
    let two = c.loop-below.invariant.within in
    let (first, second) = lowest_two ws c.dictionary_above-upper.result c.dictionary_above-lower.result
    (omega (arith, two, c.if-below-eq2.true)) c.dictionary_above-upper.ensures
    c.dictionary_above-lower.ensures in
    known-held h c.requires.sound ws c.requires.dictionaries (length ws - 2)
    c.dictionary_above-upper.result c.dictionary_above-lower.result c.args.word first second
    c.args.name c.requires.name c.in-Some.value (rw c.loop-below.invariant.heap at c.in-Some.ensures.answer)

pub returns-in-Some-clause-within : goal.returns-in-Some-clause-within
returns-in-Some-clause-within g c = λ names s shows within.
    let h = g.M.Memory.heap c.args.memory.now in
    let ws = c.args.dictionaries.now in
    let two = c.loop-below.invariant.within in
    let (first, second) = lowest_two ws c.dictionary_above-upper.result c.dictionary_above-lower.result
    (omega (arith, two, c.if-below-eq2.true)) c.dictionary_above-upper.ensures
    c.dictionary_above-lower.ensures in
    known-within h c.requires.sound ws c.requires.dictionaries (length ws - 2)
    c.dictionary_above-upper.result c.dictionary_above-lower.result c.args.word first second
    c.args.name c.requires.name c.in-Some.value (rw c.loop-below.invariant.heap at c.in-Some.ensures.answer)
    names s shows

pub returns-in-Some-clause-value : goal.returns-in-Some-clause-value
returns-in-Some-clause-value g c = λ names s shows distinct within.
    let h = g.M.Memory.heap c.args.memory.now in
    let births = birth_at h in
    let ws = c.args.dictionaries.now in
    let two = c.loop-below.invariant.within in
    let (first, second) = lowest_two ws c.dictionary_above-upper.result c.dictionary_above-lower.result
    (omega (arith, two, c.if-below-eq2.true)) c.dictionary_above-upper.ensures
    c.dictionary_above-lower.ensures in
    known-value h c.requires.sound ws c.requires.dictionaries (length ws - 2)
    c.dictionary_above-upper.result c.dictionary_above-lower.result c.args.word first second
    c.args.name c.requires.name c.in-Some.value (rw c.loop-below.invariant.heap at c.in-Some.ensures.answer)
    c.requires.key names s shows distinct within
    (c.loop-below.invariant.value names s shows distinct within
    ∙ ap (λ (n : ℕ). look_up s (drop (length ws - n) (values_in h names ws))
    (value_of births names c.args.word)) (omega (arith, c.if-below-eq2.true)))
