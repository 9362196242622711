use Rattle.std.proofs.Common.{sym, ◌∙◌}
use Rattle.model.proofs.ShownRows.{rows-are-shown}
use Rattle.desk.proofs.Looking.{idle, gives}
use Rattle.desk.proofs.lists.LoansOfListed.row_text.Goals as goal

pub returns : goal.returns
returns g c = gives idle (λ _ _ _. tt) (λ H legal given none.
    let shows = rows-are-shown H legal in (
      (shows.loans c.args.self.now.copy c.args.row.now.loan).1 (c.args.row.now, given.1.0, given.1.1),
      c.in_ok-loan_row.ensures ∙ sym (shows.loan_rows c.args.self.now.copy c.args.row.now.loan c.args.row.now given.1.0),
    ))
