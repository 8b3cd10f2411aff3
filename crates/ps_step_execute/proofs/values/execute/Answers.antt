-- A name is looked up, and all else is treated.
use Rattle.std.proofs.Common.{sym, ◌∙◌}
use Rattle.ps_step_execute.proofs.Executing.{treated_literal, treated_executable, executed_treated, literal_unnamed, named}
use Rattle.ps_step_execute.proofs.Executing.{unnamed}
use Rattle.ps_step_execute.proofs.values.execute.Goals as goal

pub execute_name-requires-clause-name : goal.execute_name-requires-clause-name
execute_name-requires-clause-name g c = λ births names.
    named c.args.word births names _
    (sym c.is_executable.ensures ∙ c.if-not-is_executable.false)
    (sym c.content.ensures ∙ c.in-Name.is)

pub returns-then-not-is_executable : goal.returns-then-not-is_executable
returns-then-not-is_executable g c =
    let literal = sym c.is_executable.ensures ∙ c.if-not-is_executable.true in
    executed_treated g.O.Operate.asks c.args.command c.args.word _ c.args.attempt _ _
    (literal_unnamed c.args.word _ _ literal)
    (treated_literal g.O.Operate.asks c.args.command c.args.word _ c.args.attempt _ _ literal
    c.push_value.ensures)

pub returns-in_default : goal.returns-in_default
returns-in_default g c =
    let may = sym c.is_executable.ensures ∙ c.if-not-is_executable.false in
    executed_treated g.O.Operate.asks c.args.command c.args.word _ c.args.attempt _ _
    (unnamed _ _ c.args.word c.content.result c.content.ensures may c.in_default.not-Name)
    (treated_executable g.O.Operate.asks c.args.command c.args.word _ c.args.attempt _ _ may
    c.execute_content.ensures)
