-- A pair more is put together.
use Rattle.std.proofs.Common.{rules, ◌≡◌, ◌++◌, ◌∷◌, [], ◌*◌, ◌+◌, arith, sym, ap, subst, ◌∙◌, get_or, List, length}
use Rattle.std.proofs.Common.{length-append}
use Rattle.std.specs.Prelude.{unwrap_or}
use Rattle.std.proofs.lemmas.Option.{slice_get-get_or}
use Rattle.ps_word.specs.declared.words.Word.{Word}
use Rattle.ps_mem.specs.Heap.{birth_at, zero_word}
use Rattle.ps_mem.specs.Shows.{AreValues, AreWithin}
use Rattle.ps_ops_operands.specs.Changes.{values_in}
use Rattle.ps_ops_dictionaries.proofs.Gathering.{gathered, gathered_held, gathered_within, gathered_none}
use Rattle.ps_ops_dictionaries.proofs.literals.gather_pairs.Goals as goal

pub loop-place-init : goal.loop-place-init
loop-place-init g c =
    let h = g.M.Memory.heap c.args.memory.now in
    record {
      heap = search rules;
      grants = search rules;
      count = ap length c.requires.empty;
      room = search rules;
      held = subst (AreValues h) (sym c.requires.empty) tt;
      within = λ s shows within.
          subst (AreWithin h c.args.names.now s) (sym c.requires.empty) tt;
      pairs = λ s shows within met. (
        gathered_none s (birth_at h) c.args.names.now (values_in h c.args.names.now
            c.args.elements.now) c.args.words.now.items c.requires.empty,
        subst (AreWithin h c.args.names.now s) (sym c.requires.empty) tt,
        met,
      );
    }

pub loop-place-preserved : goal.loop-place-preserved
loop-place-preserved g c =
    let h = g.M.Memory.heap c.args.memory.now in
    let ws = c.args.elements.now in
    let i = c.loop-place.place in
    let at = slice_get-get_or ws (2 * i) zero_word (omega arith) in
    let next = slice_get-get_or ws (2 * i + 1) zero_word (omega arith) in
    let key = rw c.loop-place.invariant.heap at c.read_key-read.ensures.key in
    let word = c.unwrap_or-key.ensures
    ∙ ap (λ o. unwrap_or o (get_or ws (2 * i) zero_word)) c.word.ensures in
    let items : c.push_reserved-in-loop-place.new.self.items
    ≡ (c.loop-place.words.items ++ c.unwrap_or-key.result ∷ [])
    ++ get_or ws (2 * i + 1) zero_word ∷ [] =
    c.push_reserved-in-loop-place.ensures.items
    ∙ ap (λ (xs : List Word). xs ++ get_or ws (2 * i + 1) zero_word ∷ [])
    c.push_reserved.ensures.items in
    let long = ap length items in
    let one = length-append c.loop-place.words.items (c.unwrap_or-key.result ∷ []) in
    let two = length-append (c.loop-place.words.items ++ c.unwrap_or-key.result ∷ [])
    (get_or ws (2 * i + 1) zero_word ∷ []) in
    let count = c.loop-place.invariant.count in
    record {
      heap = c.read_key-read.ensures.heap ∙ c.loop-place.invariant.heap;
      grants = c.read_key-read.ensures.grants ∙ c.loop-place.invariant.grants;
      count = omega (arith, long, one, two, count);
      room = c.push_reserved-in-loop-place.ensures.capacity
          ∙ (c.push_reserved.ensures.capacity ∙ c.loop-place.invariant.room);
      held = subst (AreValues h) (sym items)
          (gathered_held h c.args.names.now ws i _ _ at next c.read_key-read.result key
          c.unwrap_or-key.result word c.loop-place.words.items c.requires.held
          c.loop-place.invariant.held);
      within = λ s shows within. subst (AreWithin h c.args.names.now s) (sym items)
          (gathered_within h c.args.names.now ws i _ _ at next c.read_key-read.result key
          c.unwrap_or-key.result word c.loop-place.words.items s shows within
          (c.loop-place.invariant.within s shows within));
      pairs = λ s shows within met. rw items
          (gathered h c.args.names.now ws i _ _ at next c.read_key-read.result key
          c.unwrap_or-key.result word c.loop-place.words.items count s shows within
          (c.loop-place.invariant.pairs s shows within met));
    }
