use Rattle.desk.proofs.Looking.{idle, gives}
use Rattle.desk.proofs.TitleReaders.{no-readers}
use Rattle.desk.proofs.readers.readers_of.Goals as goal

pub returns-in-AmendTitle : goal.returns-in-AmendTitle
returns-in-AmendTitle g c = rw c.in-AmendTitle.is c.title_readers.ensures

pub returns-in_default : goal.returns-in_default
returns-in_default g c = gives idle (λ _ _ _. tt) (λ H legal _ _. rw c.none.ensures (no-readers H c.args.command.now c.in_default.not-AmendTitle))
