-- By its content.
use Rattle.std.proofs.Common.{ap}
use Rattle.ps_word.specs.declared.values.Value.{Value as Packed}
use Rattle.ps_word.specs.declared.values.Content.TheVariants.{Lock, Condition}
use Rattle.ps_word.specs.Format.{is_body}
use Rattle.ps_mem.specs.References.{IsKnown}
use Rattle.ps_mem.specs.Shows.{IsWithin}
use Rattle.ps_ops_operands.proofs.Makers.{value_of-is}
use Rattle.ps_ctx_operators.proofs.locks.single_word.Goals as goal

pub returns-in-Lock-clause-value : goal.returns-in-Lock-clause-value
returns-in-Lock-clause-value c = λ births names.
    rw c.in-Lock.is
    (value_of-is births names c.literal.result (Lock c.args.address) _ c.literal.ensures.value)

pub returns-in-Lock-clause-held : goal.returns-in-Lock-clause-held
unfolding IsKnown
returns-in-Lock-clause-held c = λ h stands.
    let content = ap (λ (packed : Packed). packed.content) c.literal.ensures.value in
    record {
      word = c.literal.ensures.word;
      known = rw content (rw c.in-Lock.is at stands);
      visible = ap is_body content;
    }

pub returns-in-Lock-clause-within : goal.returns-in-Lock-clause-within
unfolding IsWithin
returns-in-Lock-clause-within c = λ births names store.
    rw (ap (λ (packed : Packed). packed.content) c.literal.ensures.value) tt

pub returns-in-Condition-clause-value : goal.returns-in-Condition-clause-value
returns-in-Condition-clause-value c = λ births names.
    rw c.in-Condition.is
    (value_of-is births names c.literal-in-Condition.result (Condition c.args.address) _
    c.literal-in-Condition.ensures.value)

pub returns-in-Condition-clause-held : goal.returns-in-Condition-clause-held
unfolding IsKnown
returns-in-Condition-clause-held c = λ h stands.
    let content = ap (λ (packed : Packed). packed.content) c.literal-in-Condition.ensures.value in
    record {
      word = c.literal-in-Condition.ensures.word;
      known = rw content (rw c.in-Condition.is at stands);
      visible = ap is_body content;
    }

pub returns-in-Condition-clause-within : goal.returns-in-Condition-clause-within
unfolding IsWithin
returns-in-Condition-clause-within c = λ births names store.
    rw (ap (λ (packed : Packed). packed.content) c.literal-in-Condition.ensures.value) tt
