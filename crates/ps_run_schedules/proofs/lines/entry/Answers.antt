use Rattle.ps_run_schedules.proofs.Nones.{if_none, no_steps, no_flag, no_end}
use Rattle.ps_run_schedules.proofs.lines.entry.Goals as goal

pub returns-in_err-steps-clause-none : goal.returns-in_err-steps-clause-none
returns-in_err-steps-clause-none c =
    if_none c.from_residual-in_err-steps.result
    (no_steps c.args.bytes.now _ c.in_ok-context.context c.in_ok-context.ensures.number
    c.in_ok-context.ensures.found c.in_err-steps.ensures.none)

pub returns-in_err-refused-clause-none : goal.returns-in_err-refused-clause-none
returns-in_err-refused-clause-none c =
    if_none c.from_residual-in_err-refused.result
    (no_flag c.args.bytes.now _ c.in_ok-context.context c.in_ok-context.ensures.number
    c.in_ok-context.ensures.found _ c.in_ok-steps.steps c.in_ok-steps.ensures.number
    c.in_ok-steps.ensures.found c.in_err-refused.ensures.none)

pub returns-in_err-shown-clause-none : goal.returns-in_err-shown-clause-none
returns-in_err-shown-clause-none c =
    if_none c.from_residual-in_err-shown.result
    (no_end c.args.bytes.now _ c.in_ok-context.context c.in_ok-context.ensures.number
    c.in_ok-context.ensures.found _ c.in_ok-steps.steps c.in_ok-steps.ensures.number
    c.in_ok-steps.ensures.found _ c.in_ok-refused.refused c.in_ok-refused.ensures.found
    c.in_err-shown.ensures.none)
