use Rattle.hall_tests.proofs.visits.run_over.Given as goal

-- the queue that was just opened; nothing is said of what the desk shows
abbrev pub ghosts-run_hall-J-Opening : goal.ghosts-run_hall-J-Opening
ghosts-run_hall-J-Opening g a = record { name = a.opened.queue; shows = λ _. ⊥ }

-- the board that was just made
abbrev pub ghosts-run_hall-J-Naming : goal.ghosts-run_hall-J-Naming
ghosts-run_hall-J-Naming g a = record { book = a.opened.blank }
