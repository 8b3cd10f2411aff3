use Rattle.ps_run_workers.specs.Batons.{beginning}
use Rattle.ps_run_workers.proofs.runs.run_named_gated.Given as goal

-- what the run begins with
abbrev pub ghosts-run_beside : goal.ghosts-run_beside
ghosts-run_beside g a = record {
  start = beginning a.job.program.now a.job.config a.screen;
}
