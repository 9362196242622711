use Rattle.calendar.proofs.opening.Calendar.is_closed_singly.Given as goal

abbrev pub ghosts-uncounted_place : goal.ghosts-uncounted_place
ghosts-uncounted_place a = record { name = a.blank.name; parts = a.blank.parts }
