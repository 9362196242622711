use Rattle.hall_tests.proofs.calls.limit_side.Goals as goal

pub returns : goal.returns
returns g c = record { tables = λ disk H shows. absurd (c.requires H shows); told = λ disk H shows. absurd (c.requires H shows) }
