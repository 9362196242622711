use Rattle.std.proofs.Common.{◌∙◌}
use Rattle.desk.proofs.FoundRows.{title-shown}
use Rattle.desk.proofs.Results.{if-ok}
use Rattle.desk.proofs.searches.TitlesByTextSearched.line.Goals as goal

pub returns : goal.returns
returns c = if-ok _ _ c.title_line.result (λ text is H there query. is ∙ title-shown H c.args.row.now there query) c.title_line.ensures
