use Rattle.store.specs.Library.{state}
use Rattle.desk.specs.Answering.{Shows}
use Rattle.circ.proofs.serving.serve_connections.Given as goal

-- the queue that was just opened, and every list of accepted requests that the desk's tables show
abbrev pub ghosts-open_and_serve-J-Opening : goal.ghosts-open_and_serve-J-Opening
ghosts-open_and_serve-J-Opening g a = record { name = a.opened.queue; shows = Shows (state g.S.Store a.desk) }

-- the board that was just made
abbrev pub ghosts-open_and_serve-J-Naming : goal.ghosts-open_and_serve-J-Naming
ghosts-open_and_serve-J-Naming g a = record { book = a.opened.blank }
