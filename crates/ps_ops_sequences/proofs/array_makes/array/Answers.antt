use Rattle.std.proofs.Common.{◌+◌, drop, replicate, sym, subst, Ok, rules, w32, arith}
use mir.Val.{SFits}
use Rattle.std.proofs.lemmas.Int.{to_z-of_z}
use Rattle.ps_language.specs.Readers.{null}
use Rattle.ps_language.specs.RowsSequences.{array_row}
use Rattle.ps_mem.specs.Heap.{Heap, birth_at}
use Rattle.ps_mem.specs.Shows.{IsValue, IsReady, IsWithin}
use Rattle.ps_mem.proofs.KeepsLemmas.{Keeps-Extends}
use Rattle.ps_ops_operands.specs.Changes.{Makes}
use Rattle.ps_ops_operands.proofs.Held.{rest_held}
use Rattle.ps_ops_operands.proofs.Making.{made_ready, does_makes, refused_makes, unmade_makes, array_stands_whole}
use Rattle.ps_ops_sequences.proofs.ArrayMade.{array_makes, making_elements, made_elements}
use Rattle.ps_ops_sequences.proofs.array_makes.array.Goals as goal

pub returns-clause-does : goal.returns-clause-does
returns-clause-does g c =
    let h = g.M.Memory.heap c.granted.new.memory in
    let now = g.M.Memory.heap c.new_array-part.new.memory in
    let old = c.args.operands.now in
    let n = c.in-Some-count_of.count in
    let ready = subst (λ (k : Heap). IsReady k old) (sym c.granted.ensures.heap) c.requires.ready in
    let fits : SFits w32 c.in-Some-integer_of.number = search rules in
    let keeps = Keeps-Extends h now c.new_array-part.ensures.extends in
    subst (λ (k : Heap). Makes array_row c.args.refused (Ok tt) k now old c.replace.new.self)
    c.granted.ensures.heap
    (does_makes h now old _ (drop 1 old) keeps (rest_held (IsValue h) old ready.values 1)
    c.array_word.result c.replace.ensures array_row c.args.refused c.if-refused.false
    (λ names s shows within.
    made_elements h now old (drop 1 old) c.array_word.result c.new_array-part.result n
    c.new_array-part.ensures.part c.new_array-part.ensures.birth
    (λ births names. c.array_word.ensures.value births names)
    (λ births names s. c.array_word.ensures.within births names s)
    array_row (replicate n null) names s shows
    (rest_held (IsWithin (birth_at h) names s) old within 1)
    (array_makes h old c.in-Some.top c.in-Some-integer_of.number n
    c.in-Some.ensures (λ births names. c.in-Some-integer_of.ensures births names)
    (simp to_z-of_z at c.in-Some-count_of.ensures.count) (omega arith) names s)
    (c.new_array-part.ensures.shows names s shows)))

pub returns-clause-ready : goal.returns-clause-ready
returns-clause-ready g c =
    let h = g.M.Memory.heap c.granted.new.memory in
    let now = g.M.Memory.heap c.new_array-part.new.memory in
    let old = c.args.operands.now in
    let ready = subst (λ (k : Heap). IsReady k old) (sym c.granted.ensures.heap) c.requires.ready in
    let keeps = Keeps-Extends h now c.new_array-part.ensures.extends in
    made_ready h now old _ (drop 1 old) keeps (rest_held (IsValue h) old ready.values 1)
    c.array_word.result c.replace.ensures c.new_array-part.ensures.sound
    (c.array_word.ensures.held now
    (array_stands_whole now c.new_array-part.result _ c.new_array-part.ensures.part
    c.new_array-part.ensures.known))

pub returns-then-refused-clause-does : goal.returns-then-refused-clause-does
returns-then-refused-clause-does g c =
    let h = g.M.Memory.heap c.args.memory.now in
    let old = c.args.operands.now in
    let n = c.in-Some-count_of.count in
    let fits : SFits w32 c.in-Some-integer_of.number = search rules in
    refused_makes array_row c.args.refused h (2 + n) old c.if-refused.true
    (λ names s. making_elements array_row h n old (drop 1 old) (replicate n null) names s
    (array_makes h old c.in-Some.top c.in-Some-integer_of.number n c.in-Some.ensures
    (λ births names. c.in-Some-integer_of.ensures births names)
    (simp to_z-of_z at c.in-Some-count_of.ensures.count) (omega arith) names s))

pub returns-in-Err-clause-does : goal.returns-in-Err-clause-does
returns-in-Err-clause-does g c =
    let h = g.M.Memory.heap c.args.memory.now in
    let old = c.args.operands.now in
    let n = c.in-Some-count_of.count in
    let fits : SFits w32 c.in-Some-integer_of.number = search rules in
    unmade_makes array_row c.args.refused h (g.M.Memory.heap c.granted.new.memory) (2 + n) old
    c.in-Err.reason c.if-refused.false c.in-Err.ensures.heap c.in-Err.ensures.reason
    (λ names s. making_elements array_row h n old (drop 1 old) (replicate n null) names s
    (array_makes h old c.in-Some.top c.in-Some-integer_of.number n c.in-Some.ensures
    (λ births names. c.in-Some-integer_of.ensures births names)
    (simp to_z-of_z at c.in-Some-count_of.ensures.count) (omega arith) names s))
