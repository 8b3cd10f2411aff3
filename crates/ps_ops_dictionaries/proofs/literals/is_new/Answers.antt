-- By what was read.
use Rattle.std.proofs.Common.{◌≡◌, ◌*◌, ◌+◌, arith, inl, inr, length, take}
use Rattle.std.proofs.lemmas.Option.{slice_get-get_or}
use Rattle.ps_mem.specs.Heap.{zero_word}
use Rattle.ps_ops_operands.specs.Changes.{values_in}
use Rattle.ps_ops_dictionaries.specs.Literals.{met_among}
use Rattle.ps_ops_dictionaries.proofs.Counted.{count_met, count_long, count_unmet}
use Rattle.ps_ops_dictionaries.proofs.literals.is_new.Goals as goal

pub returns-in-Met-clause-answer : goal.returns-in-Met-clause-answer
returns-in-Met-clause-answer g c = λ s shows within.
    let h = g.M.Memory.heap c.args.memory.now in
    let ws = c.args.elements.now in
    let at = slice_get-get_or ws (2 * c.args.place) zero_word (omega arith) in
    let values = values_in h c.args.names.now ws in
    let same : length (met_among c.args.names.now s (take (2 * (c.args.place + 1)) values))
    ≡ length (met_among c.args.names.now s (take (2 * c.args.place) values)) = elim c.in-Met.is [
      | inl met ↦ count_met h c.args.names.now ws c.args.place _ at c.read_key-read.result
          c.read_key-read.ensures.key (c.requires.short h c.args.names.now) s shows within met.0
          met.1
      | inr long ↦ count_long h c.args.names.now ws c.args.place _ at c.read_key-read.result
          c.read_key-read.ensures.key (c.requires.short h c.args.names.now) s shows within long
    ] in
    omega (arith, same)

pub returns-in-Met-2-clause-answer : goal.returns-in-Met-2-clause-answer
returns-in-Met-2-clause-answer g c = λ s shows within.
    let h = g.M.Memory.heap c.args.memory.now in
    let ws = c.args.elements.now in
    let at = slice_get-get_or ws (2 * c.args.place) zero_word (omega arith) in
    let values = values_in h c.args.names.now ws in
    let same : length (met_among c.args.names.now s (take (2 * (c.args.place + 1)) values))
    ≡ length (met_among c.args.names.now s (take (2 * c.args.place) values)) = elim c.in-Met.is [
      | inl met ↦ count_met h c.args.names.now ws c.args.place _ at c.read_key-read.result
          c.read_key-read.ensures.key (c.requires.short h c.args.names.now) s shows within met.0
          met.1
      | inr long ↦ count_long h c.args.names.now ws c.args.place _ at c.read_key-read.result
          c.read_key-read.ensures.key (c.requires.short h c.args.names.now) s shows within long
    ] in
    omega (arith, same)

pub returns-in-Unmet-clause-answer : goal.returns-in-Unmet-clause-answer
returns-in-Unmet-clause-answer g c = λ s shows within.
    let h = g.M.Memory.heap c.args.memory.now in
    let ws = c.args.elements.now in
    let at = slice_get-get_or ws (2 * c.args.place) zero_word (omega arith) in
    let answer = rw (c.as_slice.ensures.value, c.read_key-read.ensures.heap)
    at c.is_before.ensures.answer in
    count_unmet h c.args.names.now ws c.args.place _ at c.read_key-read.result
    c.read_key-read.ensures.key (c.requires.short h c.args.names.now) s shows within
    c.in-Unmet.text c.in-Unmet.is c.is_before.result (answer s shows within)
