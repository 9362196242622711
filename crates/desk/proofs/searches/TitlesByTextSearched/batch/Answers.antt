use Rattle.model.proofs.RowRanges.{legal-rows}
use Rattle.desk.proofs.Looking.{looked, learns-on}
use Rattle.desk.proofs.FoundRows.{titles-listed}
use Rattle.desk.proofs.searches.TitlesByTextSearched.batch.Goals as goal

pub returns : goal.returns
returns g c = learns-on (looked c.titles_after.ensures legal-rows legal-rows) (λ _ _ _. tt)
    (λ H legal given rows are. titles-listed H c.args.after rows.items (rw c.new.ensures at are))
