-- The pair is put where the dictionary may be written.
use Rattle.std.proofs.Common.{sym, ◌∙◌}
use Rattle.ps_language.specs.declared.errors.ErrorName.TheVariants.{InvalidAccess}
use Rattle.ps_ops_state.proofs.Acting.{raised_acts}
use Rattle.ps_ops_dictionaries.proofs.Keyed.{met_acts, unwritable_raises, writable_acts}
use Rattle.ps_ops_dictionaries.proofs.puts.put_word.Goals as goal

pub returns-else-is_writable-clause-acts : goal.returns-else-is_writable-clause-acts
returns-else-is_writable-clause-acts g c =
    rw (c.access.ensures.heap, c.access.ensures.grants)
    (raised_acts _ _ _ _ c.requires.good InvalidAccess
    (unwritable_raises _ c.args.entry.address c.args.entry.key c.args.entry.value
    c.args.entry.operands _ c.access.ensures.value
    (sym c.is_writable.ensures ∙ c.if-is_writable.false)))

pub returns-then-is_writable-clause-acts : goal.returns-then-is_writable-clause-acts
returns-then-is_writable-clause-acts g c =
    let key = c.requires.key in
    let acts = rw (c.access.ensures.heap, c.access.ensures.grants) at c.put_met.ensures.acts in
    writable_acts _ c.args.entry.address c.args.entry.key c.args.entry.value
    c.args.entry.operands _ c.access.ensures.value
    (sym c.is_writable.ensures ∙ c.if-is_writable.true) _ c.args.attempt _ _
    (met_acts _ c.args.entry.key c.args.entry.key key c.args.entry.address c.args.entry.value
    c.args.entry.operands (λ store shown. c.requires.inside _ store shown.operands)
    c.args.attempt _ _
    (acts λ store shown. (
      (key.shown store shown.shows (c.requires.inside _ store shown.operands).0).within,
      (c.requires.inside _ store shown.operands).1,
    )))
