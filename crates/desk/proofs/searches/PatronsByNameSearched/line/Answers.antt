use Rattle.std.proofs.Common.{◌∙◌}
use Rattle.desk.proofs.FoundRows.{patron-shown}
use Rattle.desk.proofs.Results.{if-ok}
use Rattle.desk.proofs.searches.PatronsByNameSearched.line.Goals as goal

pub returns : goal.returns
returns c = if-ok _ _ c.patron_line.result (λ text is H there query. is ∙ patron-shown H c.args.row.now there query) c.patron_line.ensures
