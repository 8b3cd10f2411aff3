-- The pair is put into the current dictionary, or one of the errors.
use Rattle.std.proofs.Common.{◌∙◌}
use Rattle.ps_language.specs.declared.errors.ErrorName.TheVariants.{TypeCheck, InvalidAccess}
use Rattle.ps_mem.specs.Shows.{IsValue}
use Rattle.ps_ops_operands.proofs.Held.{first_held, second_held}
use Rattle.ps_ops_types.proofs.Accesses.{dictionary_stands}
use Rattle.ps_ops_state.proofs.Acting.{raised_acts}
use Rattle.ps_ops_state.proofs.Alike.{effect_acts, asked_acts}
use Rattle.ps_ops_dictionaries.proofs.Defining.{def_wrong, def_unreadable, def_is, def_asked}
use Rattle.ps_ops_dictionaries.proofs.definitions.def.Goals as goal

pub returns-in_default-as_dictionary-clause-acts : goal.returns-in_default-as_dictionary-clause-acts
returns-in_default-as_dictionary-clause-acts g c =
    let held = second_held (IsValue (g.M.Memory.heap c.args.runtime.now.memory)) _
    c.requires.good.operands _ _ c.in-Some.ensures in
    raised_acts _ _ _ _ c.requires.good TypeCheck
    (def_wrong _ _ _ c.in-Some.ensures (c.is_null.ensures _ _ held ∙ c.if-is_null.false)
    _ c.in-Some-top.ensures c.in_default-as_dictionary.ensures)

pub returns-then-not-is_readable_key-clause-acts : goal.returns-then-not-is_readable_key-clause-acts
returns-then-not-is_readable_key-clause-acts g c =
    let held = second_held (IsValue (g.M.Memory.heap c.args.runtime.now.memory)) _
    c.requires.good.operands _ _ c.in-Some.ensures in
    raised_acts _ _ _ _ c.requires.good InvalidAccess
    (def_unreadable _ _ _ c.in-Some.ensures
    (c.is_null.ensures _ _ held ∙ c.if-is_null.false) _ c.in-Some-top.ensures _
    c.in-Some-as_dictionary.ensures
    (c.is_readable_key.ensures _ _ ∙ c.if-not-is_readable_key.true))

pub put_entry-requires-clause-known : goal.put_entry-requires-clause-known
put_entry-requires-clause-known g c =
    (dictionary_stands (g.M.Memory.heap c.args.runtime.now.memory) _
    (first_held (IsValue (g.M.Memory.heap c.args.runtime.now.memory)) _ c.requires.good.dictionaries _
    c.in-Some-top.ensures) _ c.in-Some-as_dictionary.ensures)

pub returns-clause-acts : goal.returns-clause-acts
returns-clause-acts g c =
    let held = second_held (IsValue (g.M.Memory.heap c.args.runtime.now.memory)) _
    c.requires.good.operands _ _ c.in-Some.ensures in
    let some = c.is_null.ensures _ _ held ∙ c.if-is_null.false in
    effect_acts _ _ _ _ _ _ _
    (def_is _ _ _ c.in-Some.ensures some _ c.in-Some-top.ensures _
    c.in-Some-as_dictionary.ensures
    (c.is_readable_key.ensures _ _ ∙ c.if-not-is_readable_key.false))
    (asked_acts _ _ _ _ _ _ _
    (def_asked _ _ _ c.in-Some.ensures some _ c.in-Some-top.ensures _
    c.in-Some-as_dictionary.ensures) c.put_entry.ensures.acts)
