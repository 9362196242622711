use Rattle.std.proofs.Common.{◌≡◌, []}
use Rattle.circ_tests.proofs.connections.a_worker_serves_a_list.Given as goal

-- the queue that was just opened; the desk of a new library shows the empty list
abbrev pub ghosts-serve_list-J-Opening : goal.ghosts-serve_list-J-Opening
ghosts-serve_list-J-Opening g a = record { name = a.opened.queue; shows = λ H. H ≡ [] }

-- the board that was just made
abbrev pub ghosts-serve_list-J-Naming : goal.ghosts-serve_list-J-Naming
ghosts-serve_list-J-Naming g a = record { book = a.opened.blank }
