-- The length, or one of the errors.
use Rattle.std.proofs.Common.{w32, sym, ap, ◌∙◌}
use Rattle.std.proofs.lemmas.Int.{to_z_pos}
use Rattle.ps_language.specs.Readers.{integer}
use Rattle.ps_language.specs.declared.errors.ErrorName.TheVariants.{InvalidAccess, TypeCheck}
use Rattle.ps_mem.specs.Shows.{IsValue}
use Rattle.ps_ops_operands.proofs.Held.{rest_held}
use Rattle.ps_ops_operands.proofs.Ready.{plain_value}
use Rattle.ps_ops_state.proofs.Acting.{raised_acts}
use Rattle.ps_ops_state.proofs.Direct.{words_acts}
use Rattle.ps_ops_sequences.proofs.LengthRow.{length_wrong, length_hidden, length_left}
use Rattle.ps_ops_sequences.proofs.lengths.length.Goals as goal

pub returns-in_default-measure-clause-acts : goal.returns-in_default-measure-clause-acts
returns-in_default-measure-clause-acts g c = rw (c.measure.ensures.heap, c.measure.ensures.grants)
    (λ attempt. raised_acts _ attempt _ _ c.requires.good TypeCheck
    (length_wrong _ _ c.in-Some.ensures (λ store shows. c.in_default-measure.ensures.length store shows)))

pub returns-then-not-is_readable-clause-acts : goal.returns-then-not-is_readable-clause-acts
returns-then-not-is_readable-clause-acts g c = rw (c.measure.ensures.heap, c.measure.ensures.grants)
    (λ attempt. raised_acts _ attempt _ _ c.requires.good InvalidAccess
    (length_hidden _ _ c.in-Some.ensures _ (λ store shows. c.in-Some-measure.ensures.length store shows)
    (λ store shows. c.in-Some-measure.ensures.access store shows ∙ sym c.is_readable.ensures
    ∙ c.if-not-is_readable.true)))

pub returns-clause-acts : goal.returns-clause-acts
returns-clause-acts g c = rw (
  c.measure.ensures.heap,
  c.measure.ensures.grants,
  c.replace.ensures,
)
    (λ attempt. words_acts _ attempt _ _ _ c.requires.good (
      plain_value (g.M.Memory.heap c.args.runtime.now.memory) _ c.integer.ensures.plain,
      rest_held (IsValue (g.M.Memory.heap c.args.runtime.now.memory)) _ c.requires.good.operands 1,
    )
    (length_left _ _ c.in-Some.ensures _ (λ store shows. c.in-Some-measure.ensures.length store shows)
    (λ store shows. c.in-Some-measure.ensures.access store shows ∙ sym c.is_readable.ensures
    ∙ c.if-not-is_readable.false)
    attempt _ c.integer.ensures.plain (λ births names. c.integer.ensures.value births names
    ∙ ap integer (to_z_pos w32 c.in-Some-measure.count c.in-Some-measure.ensures.few))))
