-- Each pair is looked at, in the order of insertion.
use Rattle.std.proofs.Common.{◌≡◌, ◌+◌, suc, arith, drop, sym, ap, ◌∙◌, rules}
use Rattle.ps_language.specs.Access.{dictionary_at}
use Rattle.ps_mem.specs.Heap.{birth_at}
use Rattle.ps_ctx_readers.specs.Names.{name_among}
use Rattle.ps_ctx_readers.proofs.Naming.{name_here, name_passed, name_ended, name_behind}
use Rattle.ps_ctx_readers.proofs.names.name_among.Goals as goal

pub returns-in_default-clause-name : goal.returns-in_default-clause-name
returns-in_default-clause-name g c = λ names s shows.
    let looked = c.in_default.ensures.value in
    let here = rw c.loop-place.invariant.heap at looked in
    sym (c.loop-place.invariant.value names s shows
    ∙ name_ended c.args.birth _ c.loop-place.place (sym (here names s shows)))

pub returns-then-names_it-clause-name : goal.returns-then-names_it-clause-name
returns-then-names_it-clause-name g c = λ names s shows.
    let looked = c.in-Some.ensures.value in
    let here = rw c.loop-place.invariant.heap at looked in
    let told = c.names_it.ensures.is in
    let is = rw (c.in-Some.ensures.heap, c.loop-place.invariant.heap) at told in
    sym (c.loop-place.invariant.value names s shows
    ∙ name_here c.args.birth _ c.loop-place.place _ (sym (here names s shows))
    (sym (is names) ∙ c.if-names_it.true))

pub loop-place-preserved : goal.loop-place-preserved
loop-place-preserved g c =
    let looked = c.in-Some.ensures.value in
    let here = rw c.loop-place.invariant.heap at looked in
    let told = c.names_it.ensures.is in
    let is = rw (c.in-Some.ensures.heap, c.loop-place.invariant.heap) at told in
    record {
      within = omega (arith, c.loop-place-test.true);
      heap = search rules;
      grants = search rules;
      value = λ names s shows.
          let next : suc c.loop-place.place ≡ c.loop-place.place + 1 = omega arith in
          c.loop-place.invariant.value names s shows
          ∙ (name_passed c.args.birth _ c.loop-place.place _ (sym (here names s shows))
          (sym (is names) ∙ c.if-names_it.false)
          ∙ ap (λ n. name_among c.args.birth (drop n (dictionary_at s (birth_at
          (g.M.Memory.heap c.args.memory.now) c.args.address)).pairs)) next);
    }

pub returns-clause-name : goal.returns-clause-name
returns-clause-name g c = λ names s shows.
    sym (c.loop-place.invariant.value names s shows
    ∙ name_behind c.args.birth _ c.loop-place.place
    (omega (arith, c.loop-place-test.false, c.length-count.ensures.value names s shows)))
