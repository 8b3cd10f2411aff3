-- The value of the key, or one of the errors.
use Rattle.std.proofs.Common.{sym, ◌∙◌, refl, ◌∷◌, drop, Some, None}
use Rattle.ps_language.specs.declared.errors.ErrorName.TheVariants.{TypeCheck, InvalidAccess, Undefined}
use Rattle.ps_mem.specs.Shows.{IsValue}
use Rattle.ps_ops_operands.proofs.Held.{first_of_two_held, second_held, rest_held}
use Rattle.ps_ops_types.proofs.Accesses.{dictionary_stands}
use Rattle.ps_ops_state.proofs.Acting.{raised_acts}
use Rattle.ps_ops_state.proofs.Stacked.{stacked_acts}
use Rattle.ps_ops_dictionaries.proofs.Finding.{get_null, get_unreadable, get_hidden, get_undefined, get_stacks}
use Rattle.ps_ops_dictionaries.proofs.Finding.{word_there}
use Rattle.ps_ops_dictionaries.proofs.finds.get_from_dictionary.Goals as goal

pub returns-then-is_null-clause-acts : goal.returns-then-is_null-clause-acts
returns-then-is_null-clause-acts g c =
    let held = first_of_two_held (IsValue (g.M.Memory.heap c.args.runtime.now.memory)) _
    c.requires.good.operands _ _ c.requires.operands in
    λ attempt. raised_acts _ attempt _ _ c.requires.good TypeCheck
    (get_null _ _ _ _ c.requires.operands c.requires.address
    (c.is_null.ensures _ _ held ∙ c.if-is_null.true))

pub returns-then-not-is_readable_key-clause-acts : goal.returns-then-not-is_readable_key-clause-acts
returns-then-not-is_readable_key-clause-acts g c =
    let held = first_of_two_held (IsValue (g.M.Memory.heap c.args.runtime.now.memory)) _
    c.requires.good.operands _ _ c.requires.operands in
    λ attempt. raised_acts _ attempt _ _ c.requires.good InvalidAccess
    (get_unreadable _ _ _ _ c.requires.operands c.requires.address
    (c.is_null.ensures _ _ held ∙ c.if-is_null.false)
    (c.is_readable_key.ensures _ _ ∙ c.if-not-is_readable_key.true))

pub access-requires-clause-known : goal.access-requires-clause-known
access-requires-clause-known g c =
    dictionary_stands (g.M.Memory.heap c.args.runtime.now.memory) _
    (second_held (IsValue (g.M.Memory.heap c.args.runtime.now.memory)) _ c.requires.good.operands _ _
    c.requires.operands) _ c.requires.address

pub returns-then-not-is_readable-clause-acts : goal.returns-then-not-is_readable-clause-acts
returns-then-not-is_readable-clause-acts g c =
    let held = first_of_two_held (IsValue (g.M.Memory.heap c.args.runtime.now.memory)) _
    c.requires.good.operands _ _ c.requires.operands in
    rw (c.access.ensures.heap, c.access.ensures.grants)
    (λ attempt. raised_acts _ attempt _ _ c.requires.good InvalidAccess
    (get_hidden _ _ _ _ c.requires.operands c.requires.address
    (c.is_null.ensures _ _ held ∙ c.if-is_null.false)
    (c.is_readable_key.ensures _ _ ∙ c.if-not-is_readable_key.false) _
    c.access.ensures.value (sym c.is_readable.ensures ∙ c.if-not-is_readable.true)))

pub find_in-requires-clause-known : goal.find_in-requires-clause-known
find_in-requires-clause-known g c = rw (c.read_key-sought.ensures.heap, c.access.ensures.heap)
    (dictionary_stands (g.M.Memory.heap c.args.runtime.now.memory) _
    (second_held (IsValue (g.M.Memory.heap c.args.runtime.now.memory)) _ c.requires.good.operands _ _
    c.requires.operands) _ c.requires.address)

pub returns-in-Some-clause-acts : goal.returns-in-Some-clause-acts
returns-in-Some-clause-acts g c =
    let heap = g.M.Memory.heap c.args.runtime.now.memory in
    let ops = c.args.context.now.operands in
    let held = first_of_two_held (IsValue heap) _ c.requires.good.operands _ _
    c.requires.operands in
    let read = c.read_key-sought.ensures.key in
    let key = rw c.access.ensures.heap at read in
    let found = c.in-Some.ensures.value in
    let found_there = rw (c.read_key-sought.ensures.heap, c.access.ensures.heap) at found in
    let value = c.in-Some.ensures.held in
    let value_held = rw (c.read_key-sought.ensures.heap, c.access.ensures.heap) at value in
    let within = c.in-Some.ensures.within in
    let within_there = rw (c.read_key-sought.ensures.heap, c.access.ensures.heap) at within in
    let there = word_there c.word.result (c.in-Some.ensures.word refl) in
    rw (
      c.replace.ensures,
      c.find_in.ensures.heap,
      c.find_in.ensures.grants,
      c.read_key-sought.ensures.heap,
      c.read_key-sought.ensures.grants,
      c.access.ensures.heap,
      c.access.ensures.grants,
    )
    (λ attempt. stacked_acts _ _ (c.in-Some.value ∷ drop 2 ops) _ _ attempt c.requires.good
    (value_held, rest_held (IsValue heap) _ c.requires.good.operands 2)
    c.requires.good.dictionaries
    (get_stacks _ _ _ _ c.requires.operands c.requires.address
    (c.is_null.ensures _ _ held ∙ c.if-is_null.false)
    (c.is_readable_key.ensures _ _ ∙ c.if-not-is_readable_key.false) _
    c.access.ensures.value (sym c.is_readable.ensures ∙ c.if-not-is_readable.false)
    c.requires.good _ key _ c.word.ensures (Some c.in-Some.value) found_there _ refl there.0
    there.1 within_there))

pub returns-in-None-clause-acts : goal.returns-in-None-clause-acts
returns-in-None-clause-acts g c =
    let heap = g.M.Memory.heap c.args.runtime.now.memory in
    let held = first_of_two_held (IsValue heap) _ c.requires.good.operands _ _
    c.requires.operands in
    let read = c.read_key-sought.ensures.key in
    let key = rw c.access.ensures.heap at read in
    let found = c.in-None.ensures.value in
    let found_there = rw (c.read_key-sought.ensures.heap, c.access.ensures.heap) at found in
    rw (
      c.find_in.ensures.heap,
      c.find_in.ensures.grants,
      c.read_key-sought.ensures.heap,
      c.read_key-sought.ensures.grants,
      c.access.ensures.heap,
      c.access.ensures.grants,
    )
    (λ attempt. raised_acts _ attempt _ _ c.requires.good Undefined
    (get_undefined _ _ _ _ c.requires.operands c.requires.address
    (c.is_null.ensures _ _ held ∙ c.if-is_null.false)
    (c.is_readable_key.ensures _ _ ∙ c.if-not-is_readable_key.false) _
    c.access.ensures.value (sym c.is_readable.ensures ∙ c.if-not-is_readable.false)
    c.requires.good _ key _ c.word.ensures None found_there refl))
