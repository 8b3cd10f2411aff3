-- By what the topmost operand is.
use Rattle.std.proofs.Common.{sym, ◌∙◌}
use Rattle.ps_language.specs.declared.errors.ErrorName.TheVariants.{InvalidAccess, TypeCheck}
use Rattle.ps_mem.specs.Shows.{IsValue}
use Rattle.ps_ops_operands.proofs.Held.{first_held, rest_held}
use Rattle.ps_ops_types.proofs.Accesses.{dictionary_stands}
use Rattle.ps_ops_types.proofs.Reduced.{reduced_held}
use Rattle.ps_ops_state.proofs.Acting.{raised_acts}
use Rattle.ps_ops_state.proofs.Direct.{words_acts}
use Rattle.ps_ops_sequences.proofs.ReduceRows.{reduce_wrong, reduce_hidden, reduce_left, reduce_refused, reduced_acts, unreduced_acts}
use Rattle.ps_ops_sequences.proofs.reductions.reduce.Goals as goal

pub returns-then-not-reduces_to : goal.returns-then-not-reduces_to
returns-then-not-reduces_to g c = raised_acts _ _ _ _ c.requires.good InvalidAccess
    (reduce_hidden _ _ _ c.in-Some.ensures _ c.in-Some-as_part.ensures
    (sym c.reduces_to.ensures ∙ c.if-not-reduces_to.true))

pub returns-in-Some-as_part : goal.returns-in-Some-as_part
returns-in-Some-as_part g c =
    let h = g.M.Memory.heap c.args.runtime.now.memory in
    let held = first_held (IsValue h) _ c.requires.good.operands _ c.in-Some.ensures in
    rw c.replace.ensures (words_acts _ _ _ _ _ c.requires.good (
      reduced_held c.args.reduced _ _ c.with_access.ensures.value h held c.with_access.ensures.word,
      rest_held (IsValue h) _ c.requires.good.operands 1,
    )
    (reduce_left _ _ _ c.in-Some.ensures _ c.in-Some-as_part.ensures
    (sym c.reduces_to.ensures ∙ c.if-not-reduces_to.false) _ _ c.with_access.ensures.value))

pub returns-in_default-as_dictionary : goal.returns-in_default-as_dictionary
returns-in_default-as_dictionary g c = raised_acts _ _ _ _ c.requires.good TypeCheck
    (reduce_wrong _ _ _ c.in-Some.ensures c.in_default-as_part.ensures
    c.in_default-as_dictionary.ensures)

pub access-requires-clause-known : goal.access-requires-clause-known
access-requires-clause-known g c =
    let h = g.M.Memory.heap c.args.runtime.now.memory in
    dictionary_stands h _ (first_held (IsValue h) _ c.requires.good.operands _ c.in-Some.ensures) _
    c.in-Some-as_dictionary.ensures

pub returns-then-not-reduces_to-2 : goal.returns-then-not-reduces_to-2
returns-then-not-reduces_to-2 g c =
    let h = g.M.Memory.heap c.args.runtime.now.memory in
    let held = first_held (IsValue h) _ c.requires.good.operands _ c.in-Some.ensures in
    rw (c.access.ensures.heap, c.access.ensures.grants) (raised_acts _ _ _ _ c.requires.good
    InvalidAccess (reduce_refused _ _ _ c.in-Some.ensures _ c.in-Some-as_dictionary.ensures
    (dictionary_stands h _ held _ c.in-Some-as_dictionary.ensures) c.requires.good.sound _
    c.access.ensures.value (sym c.reduces_to-2.ensures ∙ c.if-not-reduces_to-2.true)))

pub reduce_dictionary-requires-clause-known : goal.reduce_dictionary-requires-clause-known
reduce_dictionary-requires-clause-known g c =
    let h = g.M.Memory.heap c.args.runtime.now.memory in
    rw c.access.ensures.heap (dictionary_stands h _
    (first_held (IsValue h) _ c.requires.good.operands _ c.in-Some.ensures) _
    c.in-Some-as_dictionary.ensures)

pub returns-in-Ok : goal.returns-in-Ok
returns-in-Ok g c =
    let h = g.M.Memory.heap c.args.runtime.now.memory in
    let held = first_held (IsValue h) _ c.requires.good.operands _ c.in-Some.ensures in
    let done = rw (c.access.ensures.heap, c.access.ensures.grants) at c.in-Ok.ensures in
    reduced_acts _ _ _ c.in-Some.ensures _ c.in-Some-as_dictionary.ensures
    (dictionary_stands h _ held _ c.in-Some-as_dictionary.ensures) c.requires.good.sound _
    c.access.ensures.value (sym c.reduces_to-2.ensures ∙ c.if-not-reduces_to-2.false) _
    c.requires.good _ _ done.keeps done.sound done.spends
    (λ store shown. done.shows _ store shown.shows)

pub returns-in-Err : goal.returns-in-Err
returns-in-Err g c =
    let h = g.M.Memory.heap c.args.runtime.now.memory in
    let held = first_held (IsValue h) _ c.requires.good.operands _ c.in-Some.ensures in
    let none = rw (c.access.ensures.heap, c.access.ensures.grants) at c.in-Err.ensures in
    rw none.same (unreduced_acts _ _ _ c.in-Some.ensures _ c.in-Some-as_dictionary.ensures
    (dictionary_stands h _ held _ c.in-Some-as_dictionary.ensures) c.requires.good.sound _
    c.access.ensures.value (sym c.reduces_to-2.ensures ∙ c.if-not-reduces_to-2.false) _
    c.requires.good _ none.spends _ none.reason)
