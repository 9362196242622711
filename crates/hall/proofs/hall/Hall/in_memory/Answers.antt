use Rattle.hall.proofs.NewLibrary.{shows-none, still-none, no-pages, unmade}
use Rattle.hall.proofs.hall.Hall.in_memory.Goals as goal

pub new-requires-clause-shows : goal.new-requires-clause-shows
new-requires-clause-shows g c = λ H first. shows-none c.in-Ok.desk H (c.requires.shows H first) c.in-Ok.ensures.shows

pub returns-in-Ok-new-clause-opens : goal.returns-in-Ok-new-clause-opens
returns-in-Ok-new-clause-opens g c =
    (still-none c.in-Ok.desk c.in-Ok-new.hall.0.desk c.in-Ok.ensures.shows c.in-Ok-new.ensures.side.0, c.in-Ok-new.ensures.opens)

pub returns-in-Ok-new-clause-pages : goal.returns-in-Ok-new-clause-pages
returns-in-Ok-new-clause-pages g c = no-pages c.in-Ok.desk c.in-Ok-new.hall.0.desk c.in-Ok.ensures.shows c.in-Ok-new.hall.0.publisher c.in-Ok-new.ensures.pages

pub returns-in-Err-new-clause-fault : goal.returns-in-Err-new-clause-fault
returns-in-Err-new-clause-fault g c = unmade c.in-Ok.desk c.in-Err-new.field-0.desk c.in-Ok.ensures.shows c.args.workers c.in-Err-new.field-0.why c.in-Err-new.ensures.fault
