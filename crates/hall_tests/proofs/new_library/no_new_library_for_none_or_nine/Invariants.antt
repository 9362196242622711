use Rattle.std.proofs.Common.{◌≡◌, []}
use Rattle.hall_tests.proofs.new_library.no_new_library_for_none_or_nine.Given as goal

-- the queue that was just opened; the desk of a new library shows the empty list
abbrev pub ghosts-refuse-J-Opening : goal.ghosts-refuse-J-Opening
ghosts-refuse-J-Opening g a = record { name = a.opened.queue; shows = λ H. H ≡ [] }

-- the board that was just made
abbrev pub ghosts-refuse-J-Naming : goal.ghosts-refuse-J-Naming
ghosts-refuse-J-Naming g a = record { book = a.opened.blank }
