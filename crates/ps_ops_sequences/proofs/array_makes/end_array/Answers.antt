use Rattle.std.proofs.Common.{◌+◌, ◌≡◌, [], ◌∷◌, ◌++◌, length, take, drop, sym, ap, subst, ◌∙◌, Ok, arith}
use Rattle.std.proofs.lemmas.List.{length-reverse, length-take-le}
use Rattle.ps_language.specs.RowsSequences.{end_array_row}
use Rattle.ps_language.specs.Value.{array_object}
use Rattle.ps_mem.specs.Heap.{Heap, birth_at}
use Rattle.ps_mem.specs.Shows.{IsValue, IsReady, IsWithin, Shows}
use Rattle.ps_mem.proofs.KeepsLemmas.{Keeps-Extends}
use Rattle.ps_ops_operands.specs.Changes.{Makes}
use Rattle.ps_ops_operands.proofs.Held.{rest_held}
use Rattle.ps_ops_operands.proofs.Making.{made_ready, does_makes, refused_makes, unmade_makes, whole_part}
use Rattle.ps_ops_operands.proofs.Making.{array_stands_whole}
use Rattle.ps_ops_sequences.proofs.ArrayMade.{end_makes, elements_above, making_elements, made_elements}
use Rattle.ps_ops_operands.proofs.Tops.{top_elements, top_within}
use Rattle.ps_ops_sequences.proofs.array_makes.end_array.Goals as goal

pub returns-clause-does : goal.returns-clause-does
returns-clause-does g c =
    let h = g.M.Memory.heap c.granted.new.memory in
    let now = g.M.Memory.heap c.make_array-part.new.memory in
    let old = c.args.operands.now in
    let ready = subst (λ (k : Heap). IsReady k old) (sym c.granted.ensures.heap) c.requires.ready in
    let depth = c.in-Some.depth in
    let keeps = Keeps-Extends h now c.make_array-part.ensures.extends in
    let size : length c.topmost.result.now ≡ depth = ap length c.topmost.ensures
    ∙ (length-reverse (take depth old)
    ∙ length-take-le depth old (omega (arith, c.in-Some.ensures.bound))) in
    subst (λ (k : Heap). Makes end_array_row c.args.refused (Ok tt) k now old c.replace.new.self)
    c.granted.ensures.heap
    (does_makes h now old _ (drop (depth + 1) old) keeps
    (rest_held (IsValue h) old ready.values (depth + 1)) c.array_word.result c.replace.ensures
    end_array_row c.args.refused c.if-refused.false
    (λ names s shows within.
    made_elements h now old (drop (depth + 1) old) c.array_word.result c.make_array-part.result depth
    (c.make_array-part.ensures.part ∙ ap (λ n. whole_part c.make_array-part.result.address n) size)
    c.make_array-part.ensures.birth (λ births names. c.array_word.ensures.value births names)
    (λ births names s. c.array_word.ensures.within births names s)
    end_array_row (elements_above h old depth names) names s shows
    (rest_held (IsWithin (birth_at h) names s) old within (depth + 1))
    (end_makes h old depth c.in-Some.ensures.found (omega (arith, c.in-Some.ensures.bound)) names s)
    (subst (λ vs. Shows now names (s ++ array_object vs ∷ []))
    (top_elements h names old depth c.topmost.result.now c.topmost.ensures)
    (c.make_array-part.ensures.shows names s shows
    (top_within h names s old depth c.topmost.result.now within c.topmost.ensures)))))

pub returns-clause-ready : goal.returns-clause-ready
returns-clause-ready g c =
    let h = g.M.Memory.heap c.granted.new.memory in
    let now = g.M.Memory.heap c.make_array-part.new.memory in
    let old = c.args.operands.now in
    let ready = subst (λ (k : Heap). IsReady k old) (sym c.granted.ensures.heap) c.requires.ready in
    let depth = c.in-Some.depth in
    let keeps = Keeps-Extends h now c.make_array-part.ensures.extends in
    made_ready h now old _ (drop (depth + 1) old) keeps
    (rest_held (IsValue h) old ready.values (depth + 1)) c.array_word.result c.replace.ensures
    c.make_array-part.ensures.sound
    (c.array_word.ensures.held now
    (array_stands_whole now c.make_array-part.result _ c.make_array-part.ensures.part
    c.make_array-part.ensures.known))

pub returns-then-refused-clause-does : goal.returns-then-refused-clause-does
returns-then-refused-clause-does g c =
    let h = g.M.Memory.heap c.args.memory.now in
    let old = c.args.operands.now in
    let depth = c.in-Some.depth in
    refused_makes end_array_row c.args.refused h (2 + depth) old c.if-refused.true
    (λ names s. making_elements end_array_row h depth old (drop (depth + 1) old)
    (elements_above h old depth names) names s
    (end_makes h old depth c.in-Some.ensures.found (omega (arith, c.in-Some.ensures.bound))
    names s))

pub returns-in-Err-clause-does : goal.returns-in-Err-clause-does
returns-in-Err-clause-does g c =
    let h = g.M.Memory.heap c.args.memory.now in
    let old = c.args.operands.now in
    let depth = c.in-Some.depth in
    unmade_makes end_array_row c.args.refused h (g.M.Memory.heap c.granted.new.memory) (2 + depth)
    old c.in-Err.reason c.if-refused.false c.in-Err.ensures.heap c.in-Err.ensures.reason
    (λ names s. making_elements end_array_row h depth old (drop (depth + 1) old)
    (elements_above h old depth names) names s
    (end_makes h old depth c.in-Some.ensures.found (omega (arith, c.in-Some.ensures.bound))
    names s))
