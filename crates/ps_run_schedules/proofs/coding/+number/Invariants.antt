use Rattle.std.proofs.Common.{length}
use Rattle.ps_run_schedules.proofs.coding.+number.Given as goal

abbrev pub decreases-number : goal.decreases-number
decreases-number l = length l.bytes.now
