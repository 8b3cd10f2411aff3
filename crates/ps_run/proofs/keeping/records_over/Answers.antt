use Rattle.std.proofs.Common.{refl}
use Rattle.std.proofs.lemmas.Result.{IfOk-weaker}
use Rattle.ps_run.specs.Driving.{numbered}
use Rattle.ps_run.proofs.Held.{held}
use Rattle.ps_run.proofs.keeping.records_over.Goals as goal

pub returns-in-Some-None-clause-over : goal.returns-in-Some-None-clause-over
returns-in-Some-None-clause-over g c = λ holds. (
  c.in-Some-None.name.now,
  rw (c.in-Some-None.is-0, c.in-Some-None.is-1) refl,
  held _ c.args.program.now c.holds.result c.holds.ensures holds,
)

pub returns-in-Some-Some-clause-over : goal.returns-in-Some-Some-clause-over
returns-in-Some-Some-clause-over g c =
    IfOk-weaker c.numbered_over.result _ _ (λ is over. λ holds.
    let found = over holds in (
      numbered c.in-Some-Some.prefix.now found.0,
      rw (c.in-Some-Some.is-0, c.in-Some-Some.is-1) (found.0, found.1, found.2, refl),
      found.3,
    )) c.numbered_over.ensures.over
