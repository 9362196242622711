use Rattle.hall_tests.proofs.calls.open_hall.Goals as goal

pub new-requires-clause-shows : goal.new-requires-clause-shows
new-requires-clause-shows g c = λ H shows. absurd (c.requires.none H shows)
