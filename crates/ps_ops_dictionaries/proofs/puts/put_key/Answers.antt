-- The pair is put where the dictionary may be written.
use Rattle.std.proofs.Common.{sym, subst, ◌∙◌}
use Rattle.ps_language.specs.declared.errors.ErrorName.TheVariants.{InvalidAccess}
use Rattle.ps_ops_state.proofs.Acting.{raised_acts}
use Rattle.ps_step_lookup.specs.Keys.{IsKeyOf}
use Rattle.ps_ops_dictionaries.proofs.Finding.{met_where}
use Rattle.ps_ops_dictionaries.proofs.Keyed.{met_acts, unwritable_raises, writable_acts}
use Rattle.ps_ops_dictionaries.proofs.puts.put_key.Goals as goal

pub returns-then-not-is_writable-clause-acts : goal.returns-then-not-is_writable-clause-acts
returns-then-not-is_writable-clause-acts g c =
    rw (c.access.ensures.heap, c.access.ensures.grants)
    (raised_acts _ _ _ _ c.requires.good InvalidAccess
    (unwritable_raises _ c.args.entry.address c.args.entry.key c.args.entry.value
    c.args.entry.operands _ c.access.ensures.value
    (sym c.is_writable.ensures ∙ c.if-not-is_writable.true)))

pub returns-in-Some-clause-acts : goal.returns-in-Some-clause-acts
returns-in-Some-clause-acts g c =
    let key = subst (IsKeyOf (g.M.Memory.heap c.args.runtime.now.memory) c.args.runtime.now.shared.names
    c.args.entry.key) (met_where c.args.read.now _ c.in-Some.ensures) c.requires.key in
    let acts = rw (c.access.ensures.heap, c.access.ensures.grants) at c.put_met.ensures.acts in
    writable_acts _ c.args.entry.address c.args.entry.key c.args.entry.value
    c.args.entry.operands _ c.access.ensures.value
    (sym c.is_writable.ensures ∙ c.if-not-is_writable.false) _ c.args.attempt _ _
    (met_acts _ c.args.entry.key c.in-Some.key key c.args.entry.address c.args.entry.value
    c.args.entry.operands (λ store shown. c.requires.inside _ store shown.operands)
    c.args.attempt _ _
    (acts λ store shown. (
      (key.shown store shown.shows (c.requires.inside _ store shown.operands).0).within,
      (c.requires.inside _ store shown.operands).1,
    )))

pub returns-in-None-clause-acts : goal.returns-in-None-clause-acts
returns-in-None-clause-acts g c =
    let acts = rw (c.access.ensures.heap, c.access.ensures.grants) at c.put_unmet.ensures in
    writable_acts _ c.args.entry.address c.args.entry.key c.args.entry.value
    c.args.entry.operands _ c.access.ensures.value
    (sym c.is_writable.ensures ∙ c.if-not-is_writable.false) _ c.args.attempt _ _ acts.acts
