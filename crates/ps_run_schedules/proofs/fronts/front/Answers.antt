use Rattle.std.proofs.Common.{sym, ◌∙◌}
use Rattle.ps_language.proofs.ScheduleLaws.{plain_entry}
use Rattle.ps_run_schedules.proofs.Heads.{plain_front}
use Rattle.ps_run_schedules.proofs.fronts.front.Goals as goal

pub returns-then-steps-entry : goal.returns-then-steps-entry
returns-then-steps-entry c =
    plain_entry c.args.entry.now.context c.args.steps
    ∙ sym (plain_front c.args.entry.now c.args.steps c.if-steps-entry.true)
