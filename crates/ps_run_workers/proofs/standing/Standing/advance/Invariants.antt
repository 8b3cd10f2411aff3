use Rattle.ps_vault.specs.Parking.{story_of}
use Rattle.ps_run_workers.specs.Slices.{start_at}
use Rattle.ps_run_workers.proofs.standing.Standing.advance.Given as goal

-- what the slice goes on from
abbrev pub ghosts-advance_in : goal.ghosts-advance_in
ghosts-advance_in g a = record {
  start = start_at (story_of g.M.Memory.heap
      g.M.Memory.grants a.program.now a.paused.parked) a.paused.config;
}
