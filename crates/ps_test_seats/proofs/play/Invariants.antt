use Rattle.ps_test_seats.proofs.play.Given as goal

abbrev pub ghosts-play_copier : goal.ghosts-play_copier
ghosts-play_copier a = record { table = a.seats.vm.seat.table_id }

abbrev pub ghosts-play_steps : goal.ghosts-play_steps
ghosts-play_steps a = record { table = a.seats.vm.seat.table_id }
