use Rattle.ps_run_workers.specs.Batons.{beginning}
use Rattle.ps_run_workers.proofs.runs.run_serial.Given as goal

-- what the run begins with
abbrev pub ghosts-run_serial_in : goal.ghosts-run_serial_in
ghosts-run_serial_in g a = record {
  start = beginning a.job.program.now a.job.config a.screen;
}
