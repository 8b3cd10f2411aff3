use Rattle.std.proofs.Common.{◌∷◌, sym, ap, ◌∙◌, rules}
use Rattle.ps_mem.specs.Shows.{IsValue}
use Rattle.ps_ops_operands.proofs.Held.{second_held}
use Rattle.ps_ops_sequences.proofs.Searched.{anchor_missing, anchor_overflows, anchor_found, missing_ready, found_ready}
use Rattle.ps_ops_sequences.proofs.string_searches.anchorsearch.Goals as goal

pub returns-then-not-begins_with-clause-does : goal.returns-then-not-begins_with-clause-does
returns-then-not-begins_with-clause-does g c =
    let h = g.M.Memory.heap c.args.memory.now in
    let old = c.args.operands.now in
    anchor_missing h old c.in-Some.sought c.in-Some.string c.in-Some.ensures
    c.in-Some-string_of.wanted c.in-Some-string_of-2.part
    (λ births names. c.in-Some-string_of.ensures.part births names)
    (λ births names. c.in-Some-string_of-2.ensures.part births names)
    (sym c.are_readable.ensures ∙ c.if-not-are_readable.false)
    (λ births names s within. c.in-Some-string_of.ensures.within births names s within)
    (λ births names s within. c.in-Some-string_of-2.ensures.within births names s within)
    c.begins_with.result (λ names s shows in_part in_wanted. c.begins_with.ensures.value names s
    shows in_part in_wanted)
    c.if-not-begins_with.true _ c.boolean.result (λ births names. c.boolean.ensures.value births
    names) c.boolean.ensures.plain c.replace.ensures

pub returns-then-not-begins_with-clause-ready : goal.returns-then-not-begins_with-clause-ready
returns-then-not-begins_with-clause-ready g c = missing_ready
    (g.M.Memory.heap c.args.memory.now) c.args.operands.now _ c.requires.ready c.boolean.result
    c.boolean.ensures.plain c.replace.ensures

pub returns-then-is_full-clause-does : goal.returns-then-is_full-clause-does
returns-then-is_full-clause-does g c =
    let h = g.M.Memory.heap c.args.memory.now in
    let old = c.args.operands.now in
    anchor_overflows h old c.in-Some.sought c.in-Some.string c.in-Some.ensures
    c.in-Some-string_of.wanted c.in-Some-string_of-2.part
    (λ births names. c.in-Some-string_of.ensures.part births names)
    (λ births names. c.in-Some-string_of-2.ensures.part births names)
    (sym c.are_readable.ensures ∙ c.if-not-are_readable.false)
    (λ births names s within. c.in-Some-string_of.ensures.within births names s within)
    (λ births names s within. c.in-Some-string_of-2.ensures.within births names s within)
    c.begins_with.result (λ names s shows in_part in_wanted. c.begins_with.ensures.value names s
    shows in_part in_wanted)
    c.if-not-begins_with.false (search rules)

pub returns-clause-does : goal.returns-clause-does
returns-clause-does g c =
    let h = g.M.Memory.heap c.args.memory.now in
    let old = c.args.operands.now in
    anchor_found h old c.in-Some.sought c.in-Some.string c.in-Some.ensures
    c.in-Some-string_of.wanted c.in-Some-string_of-2.part
    (λ births names. c.in-Some-string_of.ensures.part births names)
    (λ births names. c.in-Some-string_of-2.ensures.part births names)
    (sym c.are_readable.ensures ∙ c.if-not-are_readable.false)
    (λ births names s within. c.in-Some-string_of.ensures.within births names s within)
    (λ births names s within. c.in-Some-string_of-2.ensures.within births names s within)
    c.begins_with.result (λ names s shows in_part in_wanted. c.begins_with.ensures.value names s
    shows in_part in_wanted)
    c.boolean-2.result c.string_interval-matched.result c.string_interval-behind.result _
    (c.push_within-2.ensures ∙ (ap (λ ws. c.boolean-2.result ∷ ws) c.push_within.ensures ∙ ap
    (λ ws. c.boolean-2.result ∷ c.string_interval-matched.result ∷ ws) c.replace-2.ensures))
    c.if-not-begins_with.false (search rules) (λ births names. c.boolean-2.ensures.value births
    names) c.boolean-2.ensures.plain
    (λ births names. c.string_interval-matched.ensures.value births names)
    (λ births names. c.string_interval-behind.ensures.value births names)
    (λ births names s within. c.string_interval-matched.ensures.within births names s within)
    (λ births names s within. c.string_interval-behind.ensures.within births names s within)

pub returns-clause-ready : goal.returns-clause-ready
returns-clause-ready g c =
    let h = g.M.Memory.heap c.args.memory.now in
    let old = c.args.operands.now in
    let held = second_held (IsValue h) old c.requires.ready.values _ _ c.in-Some.ensures in
    found_ready h old _ c.requires.ready c.boolean-2.result c.string_interval-matched.result
    c.string_interval-behind.result c.boolean-2.ensures.plain
    (c.string_interval-matched.ensures.held h held) (c.string_interval-behind.ensures.held h
    held)
    (c.push_within-2.ensures ∙ (ap (λ ws. c.boolean-2.result ∷ ws) c.push_within.ensures ∙ ap
    (λ ws. c.boolean-2.result ∷ c.string_interval-matched.result ∷ ws) c.replace-2.ensures))
