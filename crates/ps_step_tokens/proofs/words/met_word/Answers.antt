-- The number of a name is found, and its word is of it.
use Rattle.std.proofs.Common.{Some, None, sym}
use Rattle.ps_names.specs.declared.names.NameId.{NameId}
use Rattle.ps_ops_types.proofs.First.{name_held}
use Rattle.ps_step_tokens.specs.Names.{is_executed}
use Rattle.ps_step_tokens.proofs.Naming.{is_met, name_means, name_within}
use Rattle.ps_step_tokens.proofs.words.met_word.Goals as goal

pub returns-in_err-id-clause-known : goal.returns-in_err-id-clause-known
returns-in_err-id-clause-known c =
    rw c.from_residual.ensures
    (sym (is_met (λ (id : NameId). id.0) None c.args.names.now c.args.text.now
    c.in_err-id.ensures.place))

pub returns-clause-known : goal.returns-clause-known
returns-clause-known c =
    sym (is_met (λ (id : NameId). id.0) (Some c.in_ok-id.id) c.args.names.now c.args.text.now
    c.in_ok-id.ensures.place)

pub returns-clause-word : goal.returns-clause-word
returns-clause-word c =
    let kind = c.args.kind in
    let word = c.name_word.result in
    let number = c.in_ok-id.id.0 in
    let value = rw c.is_executed.ensures at c.name_word.ensures.value in
    record {
      number = number;
      at = sym c.in_ok-id.ensures.place;
      held = λ heap. name_held word number (is_executed kind) value heap c.name_word.ensures.word;
      within = name_within kind word number value c.args.names.now c.args.text.now
          c.in_ok-id.ensures.stands;
      means = name_means kind word number value c.args.names.now c.args.text.now
          c.in_ok-id.ensures.stands;
    }
