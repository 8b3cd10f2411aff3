-- The entries are words of names met at the start, of a boolean and of the command.
use Rattle.std.proofs.Common.{refl}
use Rattle.ps_step_outcome.proofs.Noting.{AreNumbered, entries_apart, entries_held, entries_within, entries_met}
use Rattle.ps_step_outcome.proofs.notes.entries_of.Goals as goal

numbered : (c : goal.After-result-3-1) → AreNumbered c.args.new c.args.command
    c.error_number.result (record {
      newerror = (c.error_keys-keys.result.newerror, c.boolean.result);
      errorname = (c.error_keys-keys.result.errorname, c.literal-name.result);
      command = (c.error_keys-keys.result.command, c.args.command);
    })
numbered c = record {
  newerror = c.error_keys-keys.ensures.newerror;
  truth = c.boolean.ensures.value;
  plain = c.boolean.ensures.plain;
  errorname = c.error_keys-keys.ensures.errorname;
  name = record { is = c.literal-name.ensures.value; word = c.literal-name.ensures.word };
  command = c.error_keys-keys.ensures.command;
  is = refl;
}

pub returns-clause-apart : goal.returns-clause-apart
returns-clause-apart c = entries_apart _ _ _ _ (numbered c)

pub returns-clause-held : goal.returns-clause-held
returns-clause-held c = λ h known. entries_held _ _ _ _ (numbered c) h known

pub returns-clause-within : goal.returns-clause-within
returns-clause-within c = λ h names store met inside.
    entries_within _ _ _ _ (numbered c) _ c.error_number.ensures.name names met h store inside

pub returns-clause-values : goal.returns-clause-values
returns-clause-values c = λ births names met.
    entries_met _ _ _ _ (numbered c) _ c.error_number.ensures.name names met births
