use Rattle.model.proofs.RowRanges.{legal-rows}
use Rattle.desk.proofs.Looking.{looked, learns-on}
use Rattle.desk.proofs.FoundRows.{patrons-listed}
use Rattle.desk.proofs.searches.PatronsByNameSearched.batch.Goals as goal

pub returns : goal.returns
returns g c = learns-on (looked c.patrons_after.ensures legal-rows legal-rows) (λ _ _ _. tt)
    (λ H legal given rows are. patrons-listed H c.args.after rows.items (rw c.new.ensures at are))
