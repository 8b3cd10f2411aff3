use Rattle.std.proofs.Common.{◌++◌, ◌∷◌, [], ◌∙◌, ap}
use Rattle.std.proofs.lemmas.Result.{on_ok_weaker}
use Rattle.ps_run_schedules.proofs.Appended.{line_appended}
use Rattle.ps_run_schedules.proofs.writing.append_line.Goals as goal

pub returns-clause-appended : goal.returns-clause-appended
returns-clause-appended c =
    on_ok_weaker c.append_ending.result
    (line_appended c.args.text.now.items c.append_field.new.text.items
    c.append_field-2.new.text.items c.push.new.self.items c.append_ending.new.text.items
    c.args.entry.now c.in_ok-append_field.ensures.appended c.in_ok-append_field-2.ensures.appended
    (c.in_ok-push.ensures.items
    ∙ ap (λ digit. c.append_field-2.new.text.items ++ digit ∷ []) c.digit_of.ensures))
    c.append_ending.ensures.appended
