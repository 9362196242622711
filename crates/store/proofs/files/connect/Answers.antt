use Rattle.store.proofs.files.connect.Goals as goal

pub returns-in-Ok-clause-honest : goal.returns-in-Ok-clause-honest
returns-in-Ok-clause-honest g c clean = (c.in-Ok.ensures.found clean).honest

pub returns-in-Ok-clause-connects : goal.returns-in-Ok-clause-connects
returns-in-Ok-clause-connects g c clean =
    let found = c.in-Ok.ensures.found clean in
    let opened = c.in-Ok.ensures.opened clean in
    record { found = record { holds = found.holds; reads = found.reads }; opens = opened.0; live = opened.1 }
