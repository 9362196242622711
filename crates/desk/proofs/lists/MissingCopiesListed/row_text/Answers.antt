use Rattle.std.proofs.Common.{sym, ◌∙◌}
use Rattle.model.proofs.References.{legal-references}
use Rattle.model.proofs.ShownRows.{rows-are-shown}
use Rattle.desk.proofs.Looking.{gives, stops, fails}
use Rattle.desk.proofs.lists.MissingCopiesListed.row_text.Goals as goal

pub returns-in_err-title : goal.returns-in_err-title
returns-in_err-title g c = fails _ c.from_residual.ensures c.in_err-title.ensures
    (λ H list given. (legal-references H list.0).copy_title c.args.row.now.copy c.args.row.now given.1.0)

pub returns-in_err-missing_copy_row : goal.returns-in_err-missing_copy_row
returns-in_err-missing_copy_row g c = stops _ c.from_residual-in_err-missing_copy_row.ensures c.in_ok-title.ensures

pub returns : goal.returns
returns g c = gives c.in_ok-title.ensures (λ H list given. (legal-references H list.0).copy_title c.args.row.now.copy c.args.row.now given.1.0)
    (λ H legal given is.
    let shows = rows-are-shown H legal in (
      (shows.missing_copies c.args.row.now.copy).1 (c.args.row.now, given.1.0, given.1.1),
      c.in_ok-missing_copy_row.ensures ∙ sym (shows.missing_copy_rows c.args.row.now.copy c.args.row.now c.in_ok-title.title given.1.0 is),
    ))
