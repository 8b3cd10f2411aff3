-- A name more is met, or there is a reason why not.
use Rattle.std.proofs.Common.{◌*◌, ◌++◌, arith, refl, ap, ◌∙◌, get_or, List, ℕ, append_assoc}
use Rattle.std.proofs.lemmas.Option.{slice_get-get_or}
use Rattle.std.proofs.lemmas.Result.{err_from_is_err_and}
use Rattle.ps_mem.specs.Heap.{zero_word}
use Rattle.ps_step_lookup.proofs.Formed.{name_of, names_more}
use Rattle.ps_ops_dictionaries.proofs.Elements.{names_fault, names_next}
use Rattle.ps_ops_dictionaries.proofs.literals.form_names.Goals as goal

pub returns-in_err-form_key-clause-fault : goal.returns-in_err-form_key-clause-fault
returns-in_err-form_key-clause-fault g c =
    let h = g.M.Memory.heap c.args.memory.now in
    let ws = c.args.elements.now in
    let at = slice_get-get_or ws (2 * c.loop-place.place) zero_word (omega arith) in
    let key = rw c.loop-place.invariant.heap at c.read_key-read.ensures.key in
    let p = err_from_is_err_and c.from_residual.result c.from_residual.ensures.1 in
    rw (p.1, p.2)
    (names_fault h c.args.names.now c.loop-place.invariant.more.0 c.loop-place.names
    c.loop-place.invariant.more.1 ws c.loop-place.place (get_or ws (2 * c.loop-place.place) zero_word)
    at c.read_key-read.result key c.loop-place.invariant.met
    (c.requires.short h c.args.names.now) _ c.in_err-form_key.ensures.did)

pub loop-place-preserved : goal.loop-place-preserved
loop-place-preserved g c =
    let h = g.M.Memory.heap c.args.memory.now in
    let ws = c.args.elements.now in
    let at = slice_get-get_or ws (2 * c.loop-place.place) zero_word (omega arith) in
    let key = rw c.loop-place.invariant.heap at c.read_key-read.ensures.key in
    let made = c.in_ok-form_key.ensures.made refl in
    record {
      heap = c.read_key-read.ensures.heap ∙ c.loop-place.invariant.heap;
      grants = c.read_key-read.ensures.grants ∙ c.loop-place.invariant.grants;
      more = (
        c.loop-place.invariant.more.0 ++ name_of c.read_key-read.result,
        made.0
            ∙ (names_more c.loop-place.names c.read_key-read.result
            ∙ (ap (λ (ns : List (List ℕ)). ns ++ name_of c.read_key-read.result)
            c.loop-place.invariant.more.1
            ∙ append_assoc c.args.names.now c.loop-place.invariant.more.0
            (name_of c.read_key-read.result))),
      );
      are = made.1;
      met = λ s shows within.
          names_next h c.args.names.now c.loop-place.invariant.more.0 c.loop-place.names
          c.loop-place.invariant.more.1 ws c.loop-place.place
          (get_or ws (2 * c.loop-place.place) zero_word) at c.read_key-read.result key
          c.loop-place.invariant.met s shows within c.in_ok-form_key.ensures.did _ made.0;
    }
