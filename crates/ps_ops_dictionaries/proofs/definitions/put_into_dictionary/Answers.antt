-- The pair is put into the dictionary, or one of the errors.
use Rattle.std.proofs.Common.{◌∙◌}
use Rattle.ps_language.specs.declared.errors.ErrorName.TheVariants.{TypeCheck, InvalidAccess}
use Rattle.ps_mem.specs.Shows.{IsValue}
use Rattle.ps_ops_operands.proofs.Held.{third_held}
use Rattle.ps_ops_control.proofs.Rows.{second_of_three_held}
use Rattle.ps_ops_types.proofs.Accesses.{dictionary_stands}
use Rattle.ps_ops_state.proofs.Acting.{raised_acts}
use Rattle.ps_ops_state.proofs.Alike.{effect_acts, asked_acts}
use Rattle.ps_ops_dictionaries.proofs.Defining.{put_null, put_unreadable, put_puts, put_asked_is}
use Rattle.ps_ops_dictionaries.proofs.definitions.put_into_dictionary.Goals as goal

pub returns-then-is_null-clause-acts : goal.returns-then-is_null-clause-acts
returns-then-is_null-clause-acts g c =
    let held = second_of_three_held (IsValue (g.M.Memory.heap c.args.runtime.now.memory)) _
    c.requires.good.operands _ _ _ c.requires.operands in
    raised_acts _ _ _ _ c.requires.good TypeCheck
    (put_null _ _ _ _ _ c.requires.operands c.requires.address
    (c.is_null.ensures _ _ held ∙ c.if-is_null.true))

pub returns-then-not-is_readable_key-clause-acts : goal.returns-then-not-is_readable_key-clause-acts
returns-then-not-is_readable_key-clause-acts g c =
    let held = second_of_three_held (IsValue (g.M.Memory.heap c.args.runtime.now.memory)) _
    c.requires.good.operands _ _ _ c.requires.operands in
    raised_acts _ _ _ _ c.requires.good InvalidAccess
    (put_unreadable _ _ _ _ _ c.requires.operands c.requires.address
    (c.is_null.ensures _ _ held ∙ c.if-is_null.false)
    (c.is_readable_key.ensures _ _ ∙ c.if-not-is_readable_key.true))

pub put_entry-requires-clause-known : goal.put_entry-requires-clause-known
put_entry-requires-clause-known g c =
    (dictionary_stands (g.M.Memory.heap c.args.runtime.now.memory) _
    (third_held (IsValue (g.M.Memory.heap c.args.runtime.now.memory)) _ c.requires.good.operands _ _ _
    c.requires.operands) _ c.requires.address)

pub returns-clause-acts : goal.returns-clause-acts
returns-clause-acts g c =
    let held = second_of_three_held (IsValue (g.M.Memory.heap c.args.runtime.now.memory)) _
    c.requires.good.operands _ _ _ c.requires.operands in
    effect_acts _ _ _ _ _ _ _
    (put_puts _ _ _ _ _ c.requires.operands c.requires.address
    (c.is_null.ensures _ _ held ∙ c.if-is_null.false)
    (c.is_readable_key.ensures _ _ ∙ c.if-not-is_readable_key.false))
    (asked_acts _ _ _ _ _ _ _
    (put_asked_is _ _ _ _ _ c.requires.operands c.requires.address) c.put_entry.ensures.acts)
