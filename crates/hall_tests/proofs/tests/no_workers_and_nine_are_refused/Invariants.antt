use Rattle.hall_tests.proofs.tests.no_workers_and_nine_are_refused.Given as goal

-- the queue that was just opened; nothing is said of what the desk shows
abbrev pub ghosts-refuse-J-Opening : goal.ghosts-refuse-J-Opening
ghosts-refuse-J-Opening g a = record { name = a.opened.queue; shows = λ _. ⊥ }

-- the board that was just made
abbrev pub ghosts-refuse-J-Naming : goal.ghosts-refuse-J-Naming
ghosts-refuse-J-Naming g a = record { book = a.opened.blank }
