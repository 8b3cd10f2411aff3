use Rattle.std.proofs.Common.{arith, rules, sym, ◌∙◌}
use Rattle.std.proofs.lemmas.Bool.{eqb-true, eq-eqb}
use Rattle.memchr.proofs.lemmas.FindLemmas.{Nowhere-more}
use Rattle.ps_language.specs.Access.{bytes}
use Rattle.ps_mem.specs.Heap.{birth_at}
use Rattle.ps_ops_sequences.proofs.Beginnings.{length_run}
use Rattle.ps_ops_sequences.proofs.Early.{run_byte}
use Rattle.ps_ops_sequences.proofs.string_searches.find_byte.Goals as goal

pub returns-then-byte-sought-clause-value : goal.returns-then-byte-sought-clause-value
returns-then-byte-sought-clause-value g c = λ names s shows within.
    let p = c.args.part in
    let t = bytes s (birth_at (g.M.Memory.heap c.args.memory.now) p.address) in
    let below = c.loop-index-test.true in
    let here = run_byte t p.offset p.length c.loop-index.index c.byte.result below
    ((rw c.loop-index.invariant.heap at c.byte.ensures.value) names s shows within) in (
      record {
        low = omega arith;
        high = omega (arith, below, length_run t p.offset p.length within);
        before = c.loop-index.invariant.none names s shows within;
      },
      eq-eqb _ _ (here ∙ c.if-byte-sought.true),
    )

pub loop-index-preserved : goal.loop-index-preserved
loop-index-preserved g c = record {
  heap = search rules;
  grants = search rules;
  none = λ names s shows within.
      let p = c.args.part in
      let t = bytes s (birth_at (g.M.Memory.heap c.args.memory.now) p.address) in
      let here = run_byte t p.offset p.length c.loop-index.index c.byte.result
      c.loop-index-test.true
      ((rw c.loop-index.invariant.heap at c.byte.ensures.value) names s shows within) in
      Nowhere-more (c.loop-index.invariant.none names s shows within)
      (λ is. c.if-byte-sought.false (sym here ∙ eqb-true _ _ is));
}

pub returns-clause-value : goal.returns-clause-value
returns-clause-value g c = λ names s shows within k low high.
    let p = c.args.part in
    let t = bytes s (birth_at (g.M.Memory.heap c.args.memory.now) p.address) in
    c.loop-index.invariant.none names s shows within k low (omega
    (arith, high, c.loop-index-test.false, length_run t p.offset p.length within))
