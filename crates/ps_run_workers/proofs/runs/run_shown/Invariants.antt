use Rattle.ps_run_workers.proofs.runs.run_shown.Given as goal

abbrev pub ghosts-run_named : goal.ghosts-run_named
ghosts-run_named g a = record { table = a.seats.0.seat.table_id }
