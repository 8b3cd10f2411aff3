use Rattle.std.proofs.Common.{sym, ◌∙◌, arith, vec_capacity}
use Rattle.ps_mem.specs.Shows.{IsValue}
use Rattle.ps_ops_operands.proofs.Held.{second_held}
use Rattle.ps_ops_sequences.proofs.Searched.{missing_ready}
use Rattle.ps_ops_sequences.proofs.Found.{contained_overflows, uncontained_missing, search_wants, search_missing, search_found, parts_ready}
use Rattle.ps_ops_sequences.proofs.string_searches.search.Goals as goal

pub returns-in_default-found-clause-does : goal.returns-in_default-found-clause-does
returns-in_default-found-clause-does g c =
    let h = g.M.Memory.heap c.args.memory.now in
    let old = c.args.operands.now in
    search_missing h old c.in-Some.topmost c.in-Some.string c.in-Some.ensures
    c.in-Some-string_of.wanted c.in-Some-string_of-2.part
    (λ births names. c.in-Some-string_of.ensures.part births names)
    (λ births names. c.in-Some-string_of-2.ensures.part births names)
    (sym c.are_readable.ensures ∙ c.if-not-are_readable.false)
    (λ births names s within. c.in-Some-string_of.ensures.within births names s within)
    (λ births names s within. c.in-Some-string_of-2.ensures.within births names s within)
    (vec_capacity c.args.text.now) (vec_capacity c.args.sought.now) c.in-Ok.found
    (λ names s shows in_part in_wanted. c.in-Ok.ensures.value names s shows in_part in_wanted)
    c.in_default-found.is _ c.boolean-in_default-found.result
    (λ births names. c.boolean-in_default-found.ensures.value births names)
    c.boolean-in_default-found.ensures.plain c.replace-in_default-found.ensures

pub returns-in_default-found-clause-ready : goal.returns-in_default-found-clause-ready
returns-in_default-found-clause-ready g c = missing_ready (g.M.Memory.heap c.args.memory.now)
    c.args.operands.now _ c.requires.ready c.boolean-in_default-found.result c.boolean-in_default-found.ensures.plain
    c.replace-in_default-found.ensures

pub returns-then-len-gt-OPERAND_LIMIT-clause-ready :
    goal.returns-then-len-gt-OPERAND_LIMIT-clause-ready
returns-then-len-gt-OPERAND_LIMIT-clause-ready g c =
    missing_ready (g.M.Memory.heap c.args.memory.now) c.args.operands.now _ c.requires.ready
    c.boolean.result c.boolean.ensures.plain c.replace.ensures

pub returns-then-contains-clause-does : goal.returns-then-contains-clause-does
returns-then-contains-clause-does g c =
    contained_overflows (g.M.Memory.heap c.args.memory.now) c.args.operands.now
    c.in-Some.topmost c.in-Some.string c.in-Some.ensures
    c.in-Some-string_of.wanted c.in-Some-string_of-2.part
    (λ births names. c.in-Some-string_of.ensures.part births names)
    (λ births names. c.in-Some-string_of-2.ensures.part births names)
    (sym c.are_readable.ensures ∙ c.if-not-are_readable.false)
    (λ births names s within. c.in-Some-string_of.ensures.within births names s within)
    (λ births names s within. c.in-Some-string_of-2.ensures.within births names s within)
    (vec_capacity c.args.text.now) (vec_capacity c.args.sought.now)
    (λ names s shows in_part in_wanted. sym c.if-contains.true
    ∙ c.contains.ensures.value names s shows in_part in_wanted) (omega arith)

pub returns-then-len-gt-OPERAND_LIMIT-clause-does :
    goal.returns-then-len-gt-OPERAND_LIMIT-clause-does
returns-then-len-gt-OPERAND_LIMIT-clause-does g c =
    uncontained_missing (g.M.Memory.heap c.args.memory.now) c.args.operands.now
    c.in-Some.topmost c.in-Some.string c.in-Some.ensures
    c.in-Some-string_of.wanted c.in-Some-string_of-2.part
    (λ births names. c.in-Some-string_of.ensures.part births names)
    (λ births names. c.in-Some-string_of-2.ensures.part births names)
    (sym c.are_readable.ensures ∙ c.if-not-are_readable.false)
    (λ births names s within. c.in-Some-string_of.ensures.within births names s within)
    (λ births names s within. c.in-Some-string_of-2.ensures.within births names s within)
    (vec_capacity c.args.text.now) (vec_capacity c.args.sought.now)
    (λ names s shows in_part in_wanted. sym c.if-contains.false
    ∙ c.contains.ensures.value names s shows in_part in_wanted) _ c.boolean.result
    (λ births names. c.boolean.ensures.value births names) c.boolean.ensures.plain
    c.replace.ensures

pub returns-in_default-find_part-clause-does : goal.returns-in_default-find_part-clause-does
returns-in_default-find_part-clause-does g c =
    search_wants (g.M.Memory.heap c.args.memory.now) c.args.operands.now
    c.in-Some.topmost c.in-Some.string c.in-Some.ensures
    c.in-Some-string_of.wanted c.in-Some-string_of-2.part
    (λ births names. c.in-Some-string_of.ensures.part births names)
    (λ births names. c.in-Some-string_of-2.ensures.part births names)
    (sym c.are_readable.ensures ∙ c.if-not-are_readable.false)
    (λ births names s within. c.in-Some-string_of.ensures.within births names s within)
    (λ births names s within. c.in-Some-string_of-2.ensures.within births names s within)
    (vec_capacity c.args.text.now) (vec_capacity c.args.sought.now)
    (omega arith) c.in_default-find_part.ensures.full

pub returns-clause-does : goal.returns-clause-does
returns-clause-does g c =
    let h = g.M.Memory.heap c.args.memory.now in
    let old = c.args.operands.now in
    search_found h old c.in-Some.topmost c.in-Some.string c.in-Some.ensures
    c.in-Some-string_of.wanted c.in-Some-string_of-2.part
    (λ births names. c.in-Some-string_of.ensures.part births names)
    (λ births names. c.in-Some-string_of-2.ensures.part births names)
    (sym c.are_readable.ensures ∙ c.if-not-are_readable.false)
    (λ births names s within. c.in-Some-string_of.ensures.within births names s within)
    (λ births names s within. c.in-Some-string_of-2.ensures.within births names s within)
    (vec_capacity c.args.text.now) (vec_capacity c.args.sought.now) c.in-Ok.found
    (λ names s shows in_part in_wanted. c.in-Ok.ensures.value names s shows in_part in_wanted)
    c.in-Some-found.place c.in-Some-found.is _ (omega arith) c.push_found.ensures

pub returns-clause-ready : goal.returns-clause-ready
returns-clause-ready g c =
    let h = g.M.Memory.heap c.args.memory.now in
    let old = c.args.operands.now in
    parts_ready h old _ c.requires.ready c.in-Some.string c.in-Some-string_of-2.part
    c.in-Some-found.place c.in-Some-string_of.wanted.length
    (second_held (IsValue h) old c.requires.ready.values _ _ c.in-Some.ensures) c.push_found.ensures
