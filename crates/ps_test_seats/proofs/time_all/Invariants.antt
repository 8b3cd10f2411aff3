use Rattle.ps_test_seats.proofs.time_all.Given as goal

abbrev pub ghosts-time_one : goal.ghosts-time_one
ghosts-time_one a = record { table = a.seats.vm.seat.table_id }
