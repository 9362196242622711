use Rattle.hall_tests.proofs.boards.a_stopped_board_shows_what_it_showed.Given as goal

-- the board that was just made
abbrev pub ghosts-look_on_stopped : goal.ghosts-look_on_stopped
ghosts-look_on_stopped g a = record { book = a.blank }
