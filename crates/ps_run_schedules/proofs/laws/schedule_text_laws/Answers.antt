use Rattle.ps_run_schedules.proofs.Once.{text_once, bad_no_text}
use Rattle.ps_run_schedules.proofs.laws.schedule_text_laws.Goals as goal

pub returns-clause-once : goal.returns-clause-once
returns-clause-once c = text_once

pub returns-clause-bad : goal.returns-clause-bad
returns-clause-bad c = bad_no_text
