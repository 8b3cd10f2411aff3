-- There would be too many.
use Rattle.std.proofs.Common.{◌≡◌, Err, ap, ◌∙◌}
use Rattle.ps_names.specs.declared.names.NamesFault.TheVariants.{Full, Memory}
use Rattle.ps_step_tokens.proofs.Naming.{over_full, one_longer}
use Rattle.ps_step_tokens.proofs.forming.form_name.Goals as goal

pub returns-in-Err-clause-full : goal.returns-in-Err-clause-full
returns-in-Err-clause-full c = λ is.
    let same : c.in-Err.fault ≡ Full = cc in
    let full = c.intern.ensures.full.0 (c.in-Err.is ∙ ap Err same) in
    over_full c.args.names.now c.args.text.now full.0 full.2

pub returns-in-Err-clause-memory : goal.returns-in-Err-clause-memory
returns-in-Err-clause-memory c = λ is.
    let same : c.in-Err.fault ≡ Memory = cc in
    let new = c.intern.ensures.memory (c.in-Err.is ∙ ap Err same) in
    one_longer c.args.names.now c.args.text.now new.0
