use Rattle.ps_run_workers.specs.Slices.{begun}
use Rattle.ps_run_workers.proofs.standing.Standing.new.Given as goal

-- what the run begins with
abbrev pub ghosts-begin_in : goal.ghosts-begin_in
ghosts-begin_in g a = record { start = begun a.job.program.now a.job.config }
