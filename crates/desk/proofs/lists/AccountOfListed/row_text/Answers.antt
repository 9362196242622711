use Rattle.std.proofs.Common.{◌∙◌, ◌++◌, ap₂}
use Rattle.desk.proofs.Looking.{◌⨾◌, gives, stops, fails}
use Rattle.desk.proofs.ListNumbers.{account-to}
use Rattle.desk.proofs.ListRows.{line-is}
use Rattle.desk.proofs.lists.AccountOfListed.row_text.Goals as goal

pub returns-in_err-text : goal.returns-in_err-text
returns-in_err-text g c = fails _ c.from_residual.ensures c.in_err-text.ensures (λ H list given. given.1.0)

pub returns-in_err-note : goal.returns-in_err-note
returns-in_err-note g c = fails _ c.from_residual-in_err-note.ensures (c.in_ok-text.ensures ⨾ c.in_err-note.ensures) (λ H list given. (given.1.0, λ _. tt))

pub returns-in_err-push_str : goal.returns-in_err-push_str
returns-in_err-push_str g c = stops _ c.from_residual-in_err-push_str.ensures (c.in_ok-text.ensures ⨾ c.in_ok-note.ensures)

pub returns : goal.returns
returns g c = gives (c.in_ok-text.ensures ⨾ c.in_ok-note.ensures) (λ H list given. (given.1.0, λ _. tt)) (λ H legal given is. (
  account-to H c.args.self.now.patron c.args.row.now given.1.0 given.1.1,
  c.in_ok-push_str.ensures.bytes ∙ ap₂ ◌++◌ is.0 (c.deref.ensures ∙ is.1) ∙ line-is H c.args.self.now.patron c.args.row.now given.1.0,
))
