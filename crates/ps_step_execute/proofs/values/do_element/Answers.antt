-- A procedure is pushed, and all else is executed.
use Rattle.std.proofs.Common.{sym, ◌∙◌}
use Rattle.ps_step_execute.proofs.Executing.{treated_literal, treated_executable, executed_treated, done_executed}
use Rattle.ps_step_execute.proofs.Executing.{procedure_pushed, literal_unnamed, literal_unmade, named, name_unmade, made}
use Rattle.ps_step_execute.proofs.Executing.{unnamed, unmade}
use Rattle.ps_step_execute.proofs.values.do_element.Goals as goal

pub execute_name-requires-clause-name : goal.execute_name-requires-clause-name
execute_name-requires-clause-name g c = λ births names.
    named c.args.word births names _
    (sym c.is_executable.ensures ∙ c.if-not-is_executable.false)
    (sym c.content.ensures ∙ c.in-Name.is)

pub returns-then-not-is_executable : goal.returns-then-not-is_executable
returns-then-not-is_executable g c =
    let literal = sym c.is_executable.ensures ∙ c.if-not-is_executable.true in
    done_executed g.O.Operate.asks c.args.command c.args.word _ c.args.attempt _ _
    (literal_unmade c.args.word _ _ literal)
    (executed_treated g.O.Operate.asks c.args.command c.args.word _ c.args.attempt _ _
    (literal_unnamed c.args.word _ _ literal)
    (treated_literal g.O.Operate.asks c.args.command c.args.word _ c.args.attempt _ _ literal
    c.push_value.ensures))

pub returns-in-Name : goal.returns-in-Name
returns-in-Name g c =
    done_executed g.O.Operate.asks c.args.command c.args.word _ c.args.attempt _ _
    (name_unmade c.args.word _ _ _ (sym c.content.ensures ∙ c.in-Name.is)
    (sym c.is_executable.ensures ∙ c.if-not-is_executable.false))
    c.execute_name.ensures

pub returns-in-Array : goal.returns-in-Array
returns-in-Array g c =
    procedure_pushed g.O.Operate.asks c.args.command c.args.word _ c.args.attempt _ _
    (made c.args.word _ _ _ (sym c.is_executable.ensures ∙ c.if-not-is_executable.false)
    (sym c.content.ensures ∙ c.in-Array.is)) c.push_value-in-Array.ensures

pub returns-in_default : goal.returns-in_default
returns-in_default g c =
    let may = sym c.is_executable.ensures ∙ c.if-not-is_executable.false in
    done_executed g.O.Operate.asks c.args.command c.args.word _ c.args.attempt _ _
    (unmade _ _ c.args.word c.content.result c.content.ensures may c.in_default.not-Array)
    (executed_treated g.O.Operate.asks c.args.command c.args.word _ c.args.attempt _ _
    (unnamed _ _ c.args.word c.content.result c.content.ensures may c.in_default.not-Name)
    (treated_executable g.O.Operate.asks c.args.command c.args.word _ c.args.attempt _ _ may
    c.execute_content.ensures))
