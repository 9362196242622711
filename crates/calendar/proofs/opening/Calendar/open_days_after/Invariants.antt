use Rattle.calendar.proofs.opening.Calendar.open_days_after.Given as goal

abbrev pub ghosts-uncounted_open_days : goal.ghosts-uncounted_open_days
ghosts-uncounted_open_days a = record { name = a.blank.name; parts = a.blank.parts }
