use Rattle.hall_tests.proofs.boards.a_window_that_is_left_gives_its_place_back.Given as goal

-- the board that was just made
abbrev pub ghosts-count_places : goal.ghosts-count_places
ghosts-count_places g a = record { book = a.blank }
