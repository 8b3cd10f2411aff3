-- By the content.
use Rattle.std.proofs.Common.{sym, ◌∙◌}
use Rattle.ps_step_execute.proofs.Executing.{name_waits, operator_acts, array_entered, text_scanned, idle_goes, datum_pushed}
use Rattle.ps_step_execute.proofs.Executing.{array_held, text_held}
use Rattle.ps_step_execute.proofs.values.execute_content.Goals as goal

pub enter-requires-clause-part : goal.enter-requires-clause-part
enter-requires-clause-part g c =
    array_held _ c.args.word _ c.requires.word (sym c.requires.content ∙ c.in-Array.is)

pub scan_string-requires-clause-part : goal.scan_string-requires-clause-part
scan_string-requires-clause-part g c =
    text_held _ c.args.word _ c.requires.word (sym c.requires.content ∙ c.in-Text.is)

pub returns-in-Name : goal.returns-in-Name
returns-in-Name g c =
    name_waits g.O.Operate.asks c.args.command c.args.word _ c.args.attempt _ _ _
    (sym c.requires.content ∙ c.in-Name.is) c.push_frame.ensures

pub returns-in-Operator : goal.returns-in-Operator
returns-in-Operator g c =
    operator_acts g.O.Operate.asks c.args.command c.args.word _ c.args.attempt _ _ _
    (sym c.requires.content ∙ c.in-Operator.is) c.operate.ensures

pub returns-in-Null : goal.returns-in-Null
returns-in-Null g c =
    idle_goes g.O.Operate.asks c.args.command c.args.word _ c.args.attempt c.args.content
    c.requires.content c.requires.good c.in-Null.is

pub returns-in-Array : goal.returns-in-Array
returns-in-Array g c =
    array_entered g.O.Operate.asks c.args.command c.args.word _ c.args.attempt _ _ _
    (sym c.requires.content ∙ c.in-Array.is) c.enter.ensures

pub returns-in-Text : goal.returns-in-Text
returns-in-Text g c =
    text_scanned g.O.Operate.asks c.args.command c.args.word _ c.args.attempt _ _ _
    (sym c.requires.content ∙ c.in-Text.is) c.scan_string.ensures

pub returns-in-Integer : goal.returns-in-Integer
returns-in-Integer g c =
    datum_pushed g.O.Operate.asks c.args.command c.args.word _ c.args.attempt c.args.content
    c.requires.content _ _ c.in-Integer.is c.push_value.ensures
