use Rattle.hall_tests.proofs.boards.show.Goals as goal

pub publish-requires : goal.publish-requires
publish-requires g c = record { worker = c.number-in_limits.ensures.limits; number = c.requires.0; stays = c.requires.1 }
