use Rattle.store.proofs.files.connect_from.Goals as goal

pub returns-in-Ok-clause-connects : goal.returns-in-Ok-clause-connects
returns-in-Ok-clause-connects g c clean =
    let opened = c.in-Ok.ensures.opened clean in
    record { found = c.in-Ok.ensures.found clean; opens = opened.0; live = opened.1 }
