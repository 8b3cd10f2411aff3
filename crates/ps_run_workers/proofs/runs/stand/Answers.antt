-- Nothing stands where a run begins.
use Rattle.ps_run_workers.proofs.Ending.{none_stands}
use Rattle.ps_run_workers.proofs.runs.stand.Goals as goal

pub new-marked-requires : goal.new-marked-requires
new-marked-requires g c = record { empty = none_stands _ c.in-Ok.ensures.empty }
