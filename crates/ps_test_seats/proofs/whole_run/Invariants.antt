use Rattle.ps_test_seats.proofs.whole_run.Given as goal

abbrev pub ghosts-fill_and_drain : goal.ghosts-fill_and_drain
ghosts-fill_and_drain a = record { table = a.seats.vm.seat.table_id }
