use Rattle.ps_run_workers.specs.Batons.{beginning}
use Rattle.ps_run_workers.proofs.runs.run_alone.Given as goal

-- what the run begins with
abbrev pub ghosts-run_alone_in : goal.ghosts-run_alone_in
ghosts-run_alone_in g a = record {
  start = beginning a.job.program.now a.job.config a.screen;
}
