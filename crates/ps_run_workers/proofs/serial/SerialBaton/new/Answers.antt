-- Nothing stands where a run begins.
use Rattle.ps_run_workers.proofs.Ending.{none_stands}
use Rattle.ps_run_workers.proofs.serial.SerialBaton.new.Goals as goal

pub new-requires-2 : goal.new-requires-2
new-requires-2 g c = record { empty = none_stands _ c.requires.empty }
