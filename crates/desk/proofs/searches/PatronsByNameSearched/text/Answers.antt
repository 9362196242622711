use Rattle.std.proofs.Common.{sym, ◌∙◌, ap}
use Rattle.finding.specs.Finding.{finds}
use Rattle.desk.proofs.FoundRows.{patron-found}
use Rattle.desk.proofs.searches.PatronsByNameSearched.text.Goals as goal

pub returns : goal.returns
returns c = λ H there query. patron-found H c.args.row.now there query ∙ ap (finds query) (sym c.as_str.ensures.value)
