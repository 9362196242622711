use Rattle.std.proofs.Common.{◌≡◌, []}
use Rattle.hall_tests.proofs.new_library.a_new_library_in_memory.Given as goal

-- the queue that was just opened; the desk of a new library shows the empty list
abbrev pub ghosts-run_in_turn-J-Opening : goal.ghosts-run_in_turn-J-Opening
ghosts-run_in_turn-J-Opening g a = record { name = a.opened.queue; shows = λ H. H ≡ [] }

-- the board that was just made
abbrev pub ghosts-run_in_turn-J-Naming : goal.ghosts-run_in_turn-J-Naming
ghosts-run_in_turn-J-Naming g a = record { book = a.opened.blank }
