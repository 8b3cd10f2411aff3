-- By the key's word, where the dictionary may be read and has it.
use Rattle.std.proofs.Common.{sym, ap, ◌∙◌}
use Rattle.std.specs.Prelude.{is_some}
use Rattle.ps_mem.specs.Shows.{IsValue}
use Rattle.ps_ops_operands.proofs.Held.{second_held}
use Rattle.ps_ops_types.proofs.Accesses.{dictionary_stands}
use Rattle.ps_ops_dictionaries.proofs.Quickly.{value_gets}
use Rattle.ps_ops_dictionaries.proofs.finds.get_value_quickly.Goals as goal

pub access-requires-clause-known : goal.access-requires-clause-known
access-requires-clause-known g c =
    dictionary_stands (g.M.Memory.heap c.args.memory.now) _
    (second_held (IsValue (g.M.Memory.heap c.args.memory.now)) _ c.requires.ready.values _ _
    c.in-Some.ensures) _ c.in-Some-as_dictionary.ensures

pub find_in-requires-clause-known : goal.find_in-requires-clause-known
find_in-requires-clause-known g c = rw c.access.ensures.heap
    (dictionary_stands (g.M.Memory.heap c.args.memory.now) _
    (second_held (IsValue (g.M.Memory.heap c.args.memory.now)) _ c.requires.ready.values _ _
    c.in-Some.ensures) _ c.in-Some-as_dictionary.ensures)

pub returns-in-Some-find_in-clause-acts : goal.returns-in-Some-find_in-clause-acts
returns-in-Some-find_in-clause-acts g c =
    let heap = g.M.Memory.heap c.args.memory.now in
    let held = rw c.access.ensures.heap at c.in-Some-find_in.ensures.held in
    let value = rw c.access.ensures.heap at c.in-Some-find_in.ensures.value in
    let within = rw c.access.ensures.heap at c.in-Some-find_in.ensures.within in
    rw c.replace.ensures
    (λ yes. value_gets heap c.args.operands.now c.in-Some.key c.in-Some.dictionary
    c.in-Some-as_dictionary.address c.in-Some.ensures c.in-Some-as_dictionary.ensures
    (λ names key. c.is_null.ensures heap names key ∙ c.if-is_null.false)
    (ap is_some (sym c.as_text.ensures) ∙ (sym c.is_some.ensures ∙ c.if-is_some.false)) _
    c.access.ensures.value (sym c.is_readable.ensures ∙ c.if-not-is_readable.false)
    c.in-Some-find_in.value held value within)
