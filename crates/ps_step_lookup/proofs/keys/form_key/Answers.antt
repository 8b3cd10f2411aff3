-- The name is met, or was met before.
use Rattle.std.proofs.Common.{subst}
use Rattle.ps_step_lookup.specs.Keys.{IsFormable}
use Rattle.ps_step_lookup.proofs.Keying.{forms_met, forms_unmet}
use Rattle.ps_step_lookup.proofs.keys.form_key.Goals as goal

pub returns-in-Met : goal.returns-in-Met
returns-in-Met c = forms_met _ _ _ c.in-Met.is c.requires.names

pub returns-in-Ok : goal.returns-in-Ok
returns-in-Ok c =
    let names = rw c.as_slice.ensures.value at c.in-Ok.ensures.names in
    let number = rw c.as_slice.ensures.value at c.in-Ok.ensures.number in
    forms_unmet _ _ _ c.in-Unmet.is c.requires.names
    (subst (IsFormable c.args.names.now) c.in-Unmet.is c.requires.formable) _ names _ number
    c.in-Ok.ensures.below
