-- Whether the key is there, once its name is formed; or one of the errors.
use Rattle.std.proofs.Common.{sym, ◌∙◌, ap, refl, [], ◌∷◌, drop}
use Rattle.ps_language.specs.declared.errors.ErrorName.TheVariants.{TypeCheck, InvalidAccess}
use Rattle.ps_mem.specs.Heap.{birth_at}
use Rattle.ps_ops_operands.specs.Changes.{values_in}
use Rattle.ps_mem.specs.Shows.{IsValue, IsWithin}
use Rattle.ps_ops_operands.proofs.Held.{first_of_two_held, second_held, rest_held}
use Rattle.ps_ops_operands.proofs.Ready.{plain_value, plain_within}
use Rattle.ps_ops_types.proofs.Accesses.{dictionary_stands}
use Rattle.ps_ops_state.proofs.Acting.{raised_acts}
use Rattle.ps_step_lookup.proofs.Formed.{formed_name_acts, fault_acts}
use Rattle.ps_ops_dictionaries.proofs.Finding.{known_wrong, known_unreadable, known_hidden, known_tail}
use Rattle.ps_ops_dictionaries.proofs.finds.known.Goals as goal

pub returns-in_default-as_dictionary-clause-acts : goal.returns-in_default-as_dictionary-clause-acts
returns-in_default-as_dictionary-clause-acts g c =
    let held = first_of_two_held (IsValue (g.M.Memory.heap c.args.runtime.now.memory)) _
    c.requires.good.operands _ _ c.in-Some.ensures in
    λ attempt. raised_acts _ attempt _ _ c.requires.good TypeCheck
    (known_wrong _ _ _ c.in-Some.ensures (c.is_null.ensures _ _ held ∙ c.if-is_null.false)
    c.in_default-as_dictionary.ensures)

pub returns-then-not-is_readable_key-clause-acts : goal.returns-then-not-is_readable_key-clause-acts
returns-then-not-is_readable_key-clause-acts g c =
    let held = first_of_two_held (IsValue (g.M.Memory.heap c.args.runtime.now.memory)) _
    c.requires.good.operands _ _ c.in-Some.ensures in
    λ attempt. raised_acts _ attempt _ _ c.requires.good InvalidAccess
    (known_unreadable _ _ _ c.in-Some.ensures
    (c.is_null.ensures _ _ held ∙ c.if-is_null.false) _ c.in-Some-as_dictionary.ensures
    (c.is_readable_key.ensures _ _ ∙ c.if-not-is_readable_key.true))

pub access-requires-clause-known : goal.access-requires-clause-known
access-requires-clause-known g c =
    dictionary_stands (g.M.Memory.heap c.args.runtime.now.memory) _
    (second_held (IsValue (g.M.Memory.heap c.args.runtime.now.memory)) _ c.requires.good.operands _ _
    c.in-Some.ensures) _ c.in-Some-as_dictionary.ensures

pub returns-then-not-is_readable-clause-acts : goal.returns-then-not-is_readable-clause-acts
returns-then-not-is_readable-clause-acts g c =
    let held = first_of_two_held (IsValue (g.M.Memory.heap c.args.runtime.now.memory)) _
    c.requires.good.operands _ _ c.in-Some.ensures in
    rw (c.access.ensures.heap, c.access.ensures.grants)
    (λ attempt. raised_acts _ attempt _ _ c.requires.good InvalidAccess
    (known_hidden _ _ _ c.in-Some.ensures (c.is_null.ensures _ _ held ∙ c.if-is_null.false) _
    c.in-Some-as_dictionary.ensures
    (c.is_readable_key.ensures _ _ ∙ c.if-not-is_readable_key.false) _
    c.access.ensures.value (sym c.is_readable.ensures ∙ c.if-not-is_readable.true)))

pub find_in-requires-clause-known : goal.find_in-requires-clause-known
find_in-requires-clause-known g c = rw (c.read_key-sought.ensures.heap, c.access.ensures.heap)
    (dictionary_stands (g.M.Memory.heap c.args.runtime.now.memory) _
    (second_held (IsValue (g.M.Memory.heap c.args.runtime.now.memory)) _ c.requires.good.operands _ _
    c.in-Some.ensures) _ c.in-Some-as_dictionary.ensures)

pub returns-in-Ok-clause-acts : goal.returns-in-Ok-clause-acts
returns-in-Ok-clause-acts g c =
    let heap = g.M.Memory.heap c.args.runtime.now.memory in
    let births = birth_at heap in
    let ops = c.args.context.now.operands in
    let held = first_of_two_held (IsValue heap) _ c.requires.good.operands _ _ c.in-Some.ensures in
    let read = c.read_key-sought.ensures.key in
    let key = rw c.access.ensures.heap at read in
    let found = c.find_in.ensures.value in
    let found_there = rw (c.read_key-sought.ensures.heap, c.access.ensures.heap) at found in
    let made = c.in-Ok.ensures.made refl in
    rw (
      c.replace.ensures,
      c.find_in.ensures.heap,
      c.find_in.ensures.grants,
      c.read_key-sought.ensures.heap,
      c.read_key-sought.ensures.grants,
      c.access.ensures.heap,
      c.access.ensures.grants,
    )
    (λ attempt. formed_name_acts _ _ c.requires.good attempt c.in-Some.key _ key
    (λ store shown. first_of_two_held (IsWithin births _ store) _ shown.operands _ _
    c.in-Some.ensures) (c.boolean.result ∷ drop 2 ops) _
    (known_tail _ _ _ c.in-Some.ensures (c.is_null.ensures _ _ held ∙ c.if-is_null.false) _
    c.in-Some-as_dictionary.ensures
    (c.is_readable_key.ensures _ _ ∙ c.if-not-is_readable_key.false) _
    c.access.ensures.value (sym c.is_readable.ensures ∙ c.if-not-is_readable.false)
    c.requires.good _ key _ c.word.ensures _ found_there c.is_some-found.result
    c.is_some-found.ensures) c.in-Ok.ensures.did _ made.0 made.1 (
      plain_value heap _ c.boolean.ensures.plain,
      rest_held (IsValue heap) _ c.requires.good.operands 2,
    )
    (λ names store within. (
      plain_within births names store _ c.boolean.ensures.plain,
      rest_held (IsWithin births names store) _ within 2,
    ))
    (λ store shown. ap (λ v. v ∷ values_in heap c.args.runtime.now.shared.names (drop 2 ops))
    (c.boolean.ensures.value births c.args.runtime.now.shared.names)))

pub returns-in-Err-clause-acts : goal.returns-in-Err-clause-acts
returns-in-Err-clause-acts g c =
    let heap = g.M.Memory.heap c.args.runtime.now.memory in
    let births = birth_at heap in
    let held = first_of_two_held (IsValue heap) _ c.requires.good.operands _ _ c.in-Some.ensures in
    let read = c.read_key-sought.ensures.key in
    let key = rw c.access.ensures.heap at read in
    let found = c.find_in.ensures.value in
    let found_there = rw (c.read_key-sought.ensures.heap, c.access.ensures.heap) at found in
    rw (
      c.find_in.ensures.heap,
      c.find_in.ensures.grants,
      c.read_key-sought.ensures.heap,
      c.read_key-sought.ensures.grants,
      c.access.ensures.heap,
      c.access.ensures.grants,
    )
    (λ attempt. fault_acts _ _ c.requires.good attempt c.in-Some.key _ key
    (λ store shown. first_of_two_held (IsWithin births _ store) _ shown.operands _ _
    c.in-Some.ensures) [] _
    (known_tail _ _ _ c.in-Some.ensures (c.is_null.ensures _ _ held ∙ c.if-is_null.false) _
    c.in-Some-as_dictionary.ensures
    (c.is_readable_key.ensures _ _ ∙ c.if-not-is_readable_key.false) _
    c.access.ensures.value (sym c.is_readable.ensures ∙ c.if-not-is_readable.false)
    c.requires.good _ key _ c.word.ensures _ found_there c.is_some-found.result
    c.is_some-found.ensures) c.in-Err.fault c.in-Err.ensures.did _
    (c.in-Err.ensures.unmade _ refl))
