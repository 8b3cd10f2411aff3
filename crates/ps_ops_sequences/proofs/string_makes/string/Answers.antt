use Rattle.std.proofs.Common.{◌+◌, ◌/◌, drop, sym, subst, Ok, rules, w32, arith}
use mir.Val.{SFits}
use Rattle.std.proofs.lemmas.Int.{to_z-of_z}
use Rattle.ps_language.specs.RowsSequences.{string_row}
use Rattle.ps_mem.specs.Heap.{Heap}
use Rattle.ps_mem.specs.Shows.{IsValue, IsReady}
use Rattle.ps_mem.proofs.KeepsLemmas.{Keeps-Extends}
use Rattle.ps_ops_operands.specs.Changes.{IsRoomReason, Makes}
use Rattle.ps_ops_operands.proofs.Held.{rest_held}
use Rattle.ps_ops_operands.proofs.Making.{made_ready, does_makes, refused_makes, unmade_makes, string_stands_whole}
use Rattle.ps_ops_sequences.proofs.StringMade.{string_makes, string_making}
use Rattle.ps_ops_sequences.proofs.string_makes.string.Goals as goal

pub returns-clause-does : goal.returns-clause-does
returns-clause-does g c =
    let h = g.M.Memory.heap c.granted.new.memory in
    let now = g.M.Memory.heap c.new_string-part.new.memory in
    let old = c.args.operands.now in
    let ready = subst (λ (k : Heap). IsReady k old) (sym c.granted.ensures.heap) c.requires.ready in
    let fits : SFits w32 c.in-Some-integer_of.number = search rules in
    let keeps = Keeps-Extends h now c.new_string-part.ensures.extends in
    subst (λ (k : Heap). Makes string_row c.args.refused (Ok tt) k now old c.replace.new.self)
    c.granted.ensures.heap
    (does_makes h now old _ (drop 1 old) keeps (rest_held (IsValue h) old ready.values 1)
    c.string_word.result c.replace.ensures string_row c.args.refused c.if-refused.false
    (λ names s shows within.
    string_makes h old c.in-Some.top c.in-Some-integer_of.number c.in-Some-count_of.count
    c.in-Some.ensures (λ births names. c.in-Some-integer_of.ensures births names)
    (simp to_z-of_z at c.in-Some-count_of.ensures.count) (omega arith)
    now c.string_word.result c.new_string-part.result c.new_string-part.ensures.part
    c.new_string-part.ensures.birth
    (λ births names. c.string_word.ensures.value births names)
    (λ births names s within. c.string_word.ensures.within births names s within)
    names s shows within (c.new_string-part.ensures.shows names s shows)))

pub returns-clause-ready : goal.returns-clause-ready
returns-clause-ready g c =
    let h = g.M.Memory.heap c.granted.new.memory in
    let now = g.M.Memory.heap c.new_string-part.new.memory in
    let old = c.args.operands.now in
    let ready = subst (λ (k : Heap). IsReady k old) (sym c.granted.ensures.heap) c.requires.ready in
    let keeps = Keeps-Extends h now c.new_string-part.ensures.extends in
    made_ready h now old _ (drop 1 old) keeps (rest_held (IsValue h) old ready.values 1)
    c.string_word.result c.replace.ensures c.new_string-part.ensures.sound
    (c.string_word.ensures.held now
    (string_stands_whole now c.new_string-part.result _ c.new_string-part.ensures.part
    c.new_string-part.ensures.known))

pub returns-then-refused-clause-does : goal.returns-then-refused-clause-does
returns-then-refused-clause-does g c =
    let h = g.M.Memory.heap c.args.memory.now in
    let old = c.args.operands.now in
    let n = c.in-Some-count_of.count in
    let fits : SFits w32 c.in-Some-integer_of.number = search rules in
    refused_makes string_row c.args.refused h (2 + (n + 7) / 8) old c.if-refused.true
    (λ names s. string_making h old c.in-Some.top c.in-Some-integer_of.number n
    c.in-Some.ensures (λ births names. c.in-Some-integer_of.ensures births names)
    (simp to_z-of_z at c.in-Some-count_of.ensures.count) (omega arith) names s)

pub returns-in-Err-clause-does : goal.returns-in-Err-clause-does
returns-in-Err-clause-does g c =
    let h = g.M.Memory.heap c.args.memory.now in
    let old = c.args.operands.now in
    let n = c.in-Some-count_of.count in
    let fits : SFits w32 c.in-Some-integer_of.number = search rules in
    unmade_makes string_row c.args.refused h (g.M.Memory.heap c.granted.new.memory)
    (2 + (n + 7) / 8) old c.in-Err.reason c.if-refused.false c.in-Err.ensures.heap
    (subst (λ words. IsRoomReason c.in-Err.reason h (2 + words) 1) c.words_of_string.ensures
    c.in-Err.ensures.reason)
    (λ names s. string_making h old c.in-Some.top c.in-Some-integer_of.number n
    c.in-Some.ensures (λ births names. c.in-Some-integer_of.ensures births names)
    (simp to_z-of_z at c.in-Some-count_of.ensures.count) (omega arith) names s)
