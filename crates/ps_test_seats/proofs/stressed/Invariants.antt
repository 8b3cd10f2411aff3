use Rattle.ps_test_seats.proofs.stressed.Given as goal

abbrev pub ghosts-stress : goal.ghosts-stress
ghosts-stress a = record { table = a.seats.vm.seat.table_id }
