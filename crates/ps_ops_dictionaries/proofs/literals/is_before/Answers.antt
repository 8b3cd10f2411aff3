-- By the characters of the keys before it.
use Rattle.std.proofs.Common.{◌*◌, arith, sym, ◌∙◌}
use Rattle.std.proofs.lemmas.Option.{slice_get-get_or}
use Rattle.ps_mem.specs.Heap.{zero_word}
use Rattle.ps_ops_dictionaries.proofs.Counted.{none_first, none_next, some_next}
use Rattle.ps_ops_dictionaries.proofs.literals.is_before.Goals as goal
use Rattle.std.proofs.Common.{rules}

pub loop-place-init : goal.loop-place-init
loop-place-init g c = record {
  heap = search rules;
  grants = search rules;
  none = λ s shows within. none_first c.args.text.now c.args.names.now c.requires.unmet;
}

pub returns-then-is_unmet_text-clause-answer : goal.returns-then-is_unmet_text-clause-answer
returns-then-is_unmet_text-clause-answer g c = λ s shows within.
    let h = g.M.Memory.heap c.args.memory.now in
    let ws = c.args.elements.now in
    let at = slice_get-get_or ws (2 * c.loop-place.place) zero_word (omega arith) in
    let key = rw c.loop-place.invariant.heap at c.read_key-read.ensures.key in
    some_next h c.args.names.now ws c.loop-place.place _ at c.read_key-read.result key
    (c.requires.short h c.args.names.now) s shows within c.args.text.now
    (sym c.is_unmet_text.ensures ∙ c.if-is_unmet_text.true) c.args.before (omega arith)

pub loop-place-preserved : goal.loop-place-preserved
loop-place-preserved g c =
    let h = g.M.Memory.heap c.args.memory.now in
    let ws = c.args.elements.now in
    let at = slice_get-get_or ws (2 * c.loop-place.place) zero_word (omega arith) in
    let key = rw c.loop-place.invariant.heap at c.read_key-read.ensures.key in
    record {
      heap = c.read_key-read.ensures.heap ∙ c.loop-place.invariant.heap;
      grants = c.read_key-read.ensures.grants ∙ c.loop-place.invariant.grants;
      none = λ s shows within.
          none_next h c.args.names.now ws c.loop-place.place _ at c.read_key-read.result key
          (c.requires.short h c.args.names.now) s shows within c.args.text.now c.requires.unmet
          (sym c.is_unmet_text.ensures ∙ c.if-is_unmet_text.false)
          (c.loop-place.invariant.none s shows within);
    }
