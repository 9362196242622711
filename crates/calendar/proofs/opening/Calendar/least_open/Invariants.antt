use Rattle.calendar.proofs.opening.Calendar.least_open.Given as goal

abbrev pub ghosts-uncounted_least_open : goal.ghosts-uncounted_least_open
ghosts-uncounted_least_open a = record { name = a.blank.name; parts = a.blank.parts }
