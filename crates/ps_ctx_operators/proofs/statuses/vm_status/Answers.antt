-- Three numbers are pushed, or there is no room for them.
use Rattle.std.proofs.Common.{◌≡◌, Ok, Err, ap}
use Rattle.std.specs.Prelude.{Result, IfErr}
use Rattle.ps_language.specs.declared.errors.ErrorName.{ErrorName}
use Rattle.ps_language.specs.declared.errors.ErrorName.TheVariants.{StackOverflow}
use Rattle.ps_ops_state.specs.Breaks as breaks
use Rattle.ps_ops_state.specs.declared.breaks.Break.TheVariants.{Raises}
use Rattle.ps_ops_state.proofs.Lifts.{does_acts}
use Rattle.ps_ctx_operators.proofs.statuses.vm_status.Goals as goal

made_raises : (outcome : Result Unit ErrorName)
    → IfErr outcome (λ error. error ≡ StackOverflow)
    → IfErr (breaks.made outcome) (λ why. why ≡ Raises StackOverflow)
made_raises (Ok done) is = tt
made_raises (Err error) is = ap (λ (e : ErrorName). Raises e) is

pub returns-clause-error : goal.returns-clause-error
returns-clause-error g c =
    rw (c.made.ensures) (made_raises c.push_status.result c.push_status.ensures.error)

pub returns-clause-acts : goal.returns-clause-acts
returns-clause-acts g c = λ attempt.
    rw (c.made.ensures)
    (does_acts _ c.requires.good attempt _ _ _ c.push_status.ensures.row c.push_status.ensures.kept)
