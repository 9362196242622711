use Rattle.std.proofs.Common.{◌∙◌}
use Rattle.desk.proofs.Looking.{idle, gives}
use Rattle.desk.proofs.ListNumbers.{debts-to}
use Rattle.desk.proofs.PageRows.{patron-line}
use Rattle.desk.proofs.lists.DebtorsListed.row_text.Goals as goal

pub returns : goal.returns
returns g c = gives idle (λ _ _ _. tt) (λ H legal given none. (
  debts-to H c.args.row.now given.1.0 given.1.1,
  c.in_ok-patron_line.ensures ∙ patron-line H c.args.row.now.patron c.args.row.now given.1.0,
))
