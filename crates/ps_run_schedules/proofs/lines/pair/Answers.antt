use Rattle.ps_run_schedules.proofs.Nones.{if_none, no_most}
use Rattle.ps_run_schedules.proofs.lines.pair.Goals as goal

pub returns-in_err-most-clause-none : goal.returns-in_err-most-clause-none
returns-in_err-most-clause-none c =
    if_none c.from_residual-in_err-most.result
    (no_most c.args.bytes.now _ c.in_ok-used.used c.in_ok-used.ensures.number
    c.in_ok-used.ensures.found c.in_err-most.ensures.none)
