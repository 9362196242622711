use Rattle.hall_tests.proofs.boards.each_entry_is_shown_with_its_page.Given as goal

-- the board that was just made
abbrev pub ghosts-look_on : goal.ghosts-look_on
ghosts-look_on g a = record { book = a.blank }
