-- The characters are read one by one, and their name is looked for.
use Rattle.std.proofs.Common.{◌≡◌, ◌++◌, ◌∷◌, [], arith, ap, sym, ◌∙◌, rules}
use Rattle.ps_language.specs.Access.{bytes}
use Rattle.ps_mem.specs.Heap.{birth_at}
use Rattle.ps_ops_operands.proofs.Operands.{run_next}
use Rattle.ps_ops_types.proofs.First.{name_held}
use Rattle.ps_step_lookup.proofs.Keying.{read_whole}
use Rattle.ps_step_lookup.proofs.keys.text_key.Goals as goal

pub loop-index-preserved : goal.loop-index-preserved
loop-index-preserved g c =
    let read = c.byte.ensures.value in
    let here = rw c.loop-index.invariant.heap at read in
    record {
      heap = search rules;
      grants = search rules;
      count = omega (arith, c.push.ensures.len, c.loop-index.invariant.count);
      value = λ names s shows within.
          let text = bytes s (birth_at (g.M.Memory.heap c.args.memory.now) c.args.part.address) in
          c.push.ensures.items
          ∙ (ap (λ xs. xs ++ c.byte.result ∷ []) (c.loop-index.invariant.value names s shows within)
          ∙ sym (run_next text c.args.part.offset c.loop-index.index c.byte.result
          (here names s shows within)));
    }

pub literal-requires : goal.literal-requires
literal-requires g c =
    let below = c.in-Some.ensures.within in
    let few = c.in-Some.ensures.names.few in
    omega (arith, below, few)

pub returns-in-Some-clause-word : goal.returns-in-Some-clause-word
returns-in-Some-clause-word g c =
    name_held _ _ _ c.literal.ensures.value (g.M.Memory.heap c.args.memory.now)
    c.literal.ensures.word

pub returns-in-Some-clause-key : goal.returns-in-Some-clause-key
returns-in-Some-clause-key g c =
    let upto = c.loop-index.auto.index-end in
    let end = c.loop-index-test.false in
    let at_end : c.loop-index.index ≡ c.args.part.length = omega (arith, upto, end) in
    let place = rw c.as_slice.ensures.value at c.in-Some.ensures.place in (
      c.loop-index.text.items,
      read_whole _ _ _ _ _ at_end c.loop-index.invariant.count c.loop-index.invariant.value,
      record {
        number = c.in-Some.id.0;
        is = c.literal.ensures.value;
        word = c.literal.ensures.word;
        met = sym place;
      },
    )

pub returns-in-None-clause-key : goal.returns-in-None-clause-key
returns-in-None-clause-key g c =
    let upto = c.loop-index.auto.index-end in
    let end = c.loop-index-test.false in
    let at_end : c.loop-index.index ≡ c.args.part.length = omega (arith, upto, end) in
    let place = rw c.as_slice.ensures.value at c.in-None.ensures.place in
    let count = c.loop-index.invariant.count in
    let short = c.if-part-gt-NAME_LIMIT.false in (
      read_whole _ _ _ _ _ at_end count c.loop-index.invariant.value,
      record { short = omega (arith, count, at_end, short); unmet = sym place },
    )
