use Rattle.ps_run_workers.proofs.runs.run_gated.Given as goal

abbrev pub ghosts-run_named_gated : goal.ghosts-run_named_gated
ghosts-run_named_gated g a = record { table = a.seats.0.seat.table_id }
