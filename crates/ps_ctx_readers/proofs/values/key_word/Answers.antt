-- The word is the name of the bytes.
use Rattle.std.proofs.Common.{sym}
use Rattle.ps_step_lookup.proofs.Keying.{named_value, named_within}
use Rattle.ps_step_lookup.specs.Keys.{IsNameOf}
use Rattle.ps_step_outcome.proofs.Noting.{named_held}
use Rattle.ps_ctx_readers.proofs.values.key_word.Goals as goal

pub returns-in-Some-clause-held : goal.returns-in-Some-clause-held
returns-in-Some-clause-held c = λ h.
    named_held h c.in-Some.id.0 c.literal.result
    (record { is = c.literal.ensures.value; word = c.literal.ensures.word })

pub returns-in-Some-clause-sought : goal.returns-in-Some-clause-sought
returns-in-Some-clause-sought c = λ births s.
    let named : IsNameOf c.args.names.now c.args.key.now c.literal.result = record {
      number = c.in-Some.id.0;
      is = c.literal.ensures.value;
      word = c.literal.ensures.word;
      met = sym c.in-Some.ensures.place;
    } in (
      sym (named_value c.args.names.now c.args.key.now c.literal.result named births),
      named_within c.args.names.now c.args.key.now c.literal.result named births s,
    )
