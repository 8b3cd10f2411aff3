-- Made, refused, or without room.
use Rattle.std.proofs.Common.{◌+◌, ◌*◌, drop, sym, subst, Ok, rules, w32, arith}
use mir.Val.{SFits}
use Rattle.std.proofs.lemmas.Int.{to_z-of_z}
use Rattle.ps_language.specs.RowsDictionaries.{dict_row}
use Rattle.ps_mem.specs.Heap.{Heap}
use Rattle.ps_mem.specs.Shows.{IsValue, IsReady, IsWithin}
use Rattle.ps_mem.proofs.KeepsLemmas.{Keeps-Extends}
use Rattle.ps_ops_operands.specs.Changes.{Makes}
use Rattle.ps_ops_operands.proofs.Held.{rest_held}
use Rattle.ps_ops_operands.proofs.Making.{made_ready, does_makes, refused_makes, unmade_makes}
use Rattle.ps_ops_dictionaries.proofs.Making.{dict_making, dict_object}
use Rattle.ps_ops_dictionaries.proofs.makes.make_empty.Goals as goal

pub returns-clause-does : goal.returns-clause-does
returns-clause-does g c =
    let h = g.M.Memory.heap c.granted.new.memory in
    let now = g.M.Memory.heap c.new_dictionary-address.new.memory in
    let old = c.args.operands.now in
    let ready = subst (λ (k : Heap). IsReady k old) (sym c.granted.ensures.heap) c.requires.ready in
    let fits : SFits w32 c.in-Some-integer_of.number = search rules in
    let keeps = Keeps-Extends h now c.new_dictionary-address.ensures.extends in
    subst (λ (k : Heap). Makes dict_row c.args.refused (Ok tt) k now old c.replace.new.self)
    c.granted.ensures.heap
    (does_makes h now old _ (drop 1 old) keeps (rest_held (IsValue h) old ready.values 1)
    c.dictionary_word.result c.replace.ensures dict_row c.args.refused c.if-refused.false
    (λ names s shows within.
    dict_object h old c.in-Some.top c.in-Some-integer_of.number c.in-Some-count_of.count
    c.in-Some.ensures (λ births names. c.in-Some-integer_of.ensures births names)
    (simp to_z-of_z at c.in-Some-count_of.ensures.count) (omega arith) now
    c.dictionary_word.result c.new_dictionary-address.result
    c.new_dictionary-address.ensures.birth c.dictionary_word.ensures.value
    c.dictionary_word.ensures.within names s shows
    (rest_held (IsWithin _ names s) old within 1)
    (c.new_dictionary-address.ensures.shows names s shows)))

pub returns-clause-ready : goal.returns-clause-ready
returns-clause-ready g c =
    let h = g.M.Memory.heap c.granted.new.memory in
    let now = g.M.Memory.heap c.new_dictionary-address.new.memory in
    let old = c.args.operands.now in
    let ready = subst (λ (k : Heap). IsReady k old) (sym c.granted.ensures.heap) c.requires.ready in
    let keeps = Keeps-Extends h now c.new_dictionary-address.ensures.extends in
    made_ready h now old _ (drop 1 old) keeps (rest_held (IsValue h) old ready.values 1)
    c.dictionary_word.result c.replace.ensures c.new_dictionary-address.ensures.sound
    (c.dictionary_word.ensures.held now c.new_dictionary-address.ensures.known)

pub returns-then-refused-clause-does : goal.returns-then-refused-clause-does
returns-then-refused-clause-does g c =
    let h = g.M.Memory.heap c.args.memory.now in
    let old = c.args.operands.now in
    let n = c.in-Some-count_of.count in
    let fits : SFits w32 c.in-Some-integer_of.number = search rules in
    refused_makes dict_row c.args.refused h (8 + 3 * n) old c.if-refused.true
    (dict_making h old c.in-Some.top c.in-Some-integer_of.number n c.in-Some.ensures
    (λ births names. c.in-Some-integer_of.ensures births names)
    (simp to_z-of_z at c.in-Some-count_of.ensures.count) (omega arith))

pub returns-in-Err-clause-does : goal.returns-in-Err-clause-does
returns-in-Err-clause-does g c =
    let h = g.M.Memory.heap c.args.memory.now in
    let old = c.args.operands.now in
    let n = c.in-Some-count_of.count in
    let fits : SFits w32 c.in-Some-integer_of.number = search rules in
    unmade_makes dict_row c.args.refused h (g.M.Memory.heap c.granted.new.memory) (8 + 3 * n) old
    c.in-Err.reason c.if-refused.false c.in-Err.ensures.heap c.in-Err.ensures.reason
    (dict_making h old c.in-Some.top c.in-Some-integer_of.number n c.in-Some.ensures
    (λ births names. c.in-Some-integer_of.ensures births names)
    (simp to_z-of_z at c.in-Some-count_of.ensures.count) (omega arith))
