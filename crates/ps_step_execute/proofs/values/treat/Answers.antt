-- Literal or executable.
use Rattle.std.proofs.Common.{sym, ◌∙◌}
use Rattle.ps_step_execute.proofs.Executing.{treated_literal, treated_executable}
use Rattle.ps_step_execute.proofs.values.treat.Goals as goal

pub returns-then-not-is_executable : goal.returns-then-not-is_executable
returns-then-not-is_executable g c =
    treated_literal g.O.Operate.asks c.args.command c.args.word _ c.args.attempt _ _
    (sym c.is_executable.ensures ∙ c.if-not-is_executable.true) c.push_value.ensures

pub returns : goal.returns
returns g c =
    treated_executable g.O.Operate.asks c.args.command c.args.word _ c.args.attempt _ _
    (sym c.is_executable.ensures ∙ c.if-not-is_executable.false) c.execute_content.ensures
